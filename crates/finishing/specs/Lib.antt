pub mod Finishes
pub mod Ordering
pub mod Shown
pub mod Names
