pub mod RunFaults
pub mod Worked
pub mod Printable
pub mod Own
