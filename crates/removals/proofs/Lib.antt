pub mod WithoutSlot
pub mod Removing
pub mod Touching
pub mod DeleteReads
