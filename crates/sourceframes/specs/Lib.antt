pub mod Names
pub mod Frames
pub mod Marks
pub mod Pairs
pub mod Theses
