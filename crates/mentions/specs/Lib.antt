pub mod Vanished
pub mod Mentioned
pub mod Lines
