pub mod Beginning
pub mod Counting
pub mod Ending
