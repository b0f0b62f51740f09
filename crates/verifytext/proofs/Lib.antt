pub mod FirstFaults
pub mod Spaced
