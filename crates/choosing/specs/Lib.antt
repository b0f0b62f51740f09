pub mod Choices
pub mod Spoken
pub mod Marks
pub mod Places
pub mod Examples
