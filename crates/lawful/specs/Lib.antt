pub mod Lawful
pub mod History
pub mod Laws
