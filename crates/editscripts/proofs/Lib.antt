pub mod Expanding
pub mod Undoing
pub mod Describing
pub mod Chosen
pub mod Lines
pub mod Placing
pub mod FaultTexts
pub mod Sayings
