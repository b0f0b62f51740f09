pub mod Intakes
pub mod Parts
