pub mod Paths
pub mod Views
pub mod Found
pub mod Sound
pub mod Sorts
pub mod Symbols
pub mod Effects
pub mod Seen
