pub mod Staying
pub mod Changes
pub mod Places
