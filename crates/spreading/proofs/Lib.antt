pub mod Counted
pub mod Parted
pub mod Citing
pub mod PartByPart
