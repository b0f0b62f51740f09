pub mod Floats
pub mod Looked
pub mod Differing
