pub mod Kept
pub mod Lending
pub mod Sighted
mod Reading
pub mod Ended
pub mod Sent
