pub mod Reading
pub mod One
pub mod Small
pub mod Staging
pub mod Sent
pub mod CitedSlots
pub mod Steps
