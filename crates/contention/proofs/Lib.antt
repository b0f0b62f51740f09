pub mod Meeting
pub mod Locking
