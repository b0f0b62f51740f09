pub mod StandIns
pub mod Ending
pub mod Views
