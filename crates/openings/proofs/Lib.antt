pub mod Naming
pub mod Openings
mod Unread
