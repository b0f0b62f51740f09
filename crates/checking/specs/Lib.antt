pub mod Outcomes
pub mod FaultLines
pub mod Checks
pub mod Parts
pub mod Tasks
pub mod Laws
