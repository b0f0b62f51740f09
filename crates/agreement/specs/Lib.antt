pub mod Short
pub mod Taken
pub mod Laws
pub mod Examples
