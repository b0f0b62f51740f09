pub mod Touches
pub mod Takes
pub mod Footprints
