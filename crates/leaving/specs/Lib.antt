pub mod Leaving
pub mod Ends
