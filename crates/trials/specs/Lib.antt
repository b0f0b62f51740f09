pub mod InCells
pub mod Opened
