pub mod Jobs
pub mod Parts
pub mod Tasks
pub mod Laws
