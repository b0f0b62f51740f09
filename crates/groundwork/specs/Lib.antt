pub mod Citing
pub mod Known
pub mod Changes
pub mod Touches
pub mod Takes
pub mod Footprints
