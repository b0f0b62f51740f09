pub mod Accepted
pub mod Appended
