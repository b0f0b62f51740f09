pub mod Named
pub mod Stored
pub mod Grown
pub mod Words
pub mod Members
