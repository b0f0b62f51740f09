pub mod Refusals
pub mod Gone
pub mod Finished
