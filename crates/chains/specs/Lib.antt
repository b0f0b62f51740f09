pub mod Chains
pub mod Filling
