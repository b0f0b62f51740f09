pub mod Citations
pub mod Verifies
pub mod Faults
pub mod Laws
pub mod Examples
