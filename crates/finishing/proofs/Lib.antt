mod Putting
mod Looked
pub mod Ended
