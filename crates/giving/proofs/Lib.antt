mod Changing
pub mod Places
mod Ordered
pub mod Finding
