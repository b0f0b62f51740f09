pub mod Numbered
pub mod Framed
pub mod Placing
pub mod Marking
pub mod Ordered
pub mod Sameness
