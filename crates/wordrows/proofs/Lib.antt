pub mod Kept
pub mod Later
pub mod Named
