pub mod Ranges
pub mod Pairs
pub mod Laws
