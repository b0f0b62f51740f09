pub mod EditedThen
pub mod Ordered
pub mod Runs
pub mod Apart
pub mod Commas
