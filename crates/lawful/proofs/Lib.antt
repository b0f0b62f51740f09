pub mod Keeping
pub mod Entries
pub mod Standing
pub mod Closed
pub mod Running
mod Small
