pub mod Works
pub mod Shifts
pub mod Names
