pub mod Outcomes
pub mod Placed
pub mod Pairs
pub mod Gatherings
pub mod Assembled
