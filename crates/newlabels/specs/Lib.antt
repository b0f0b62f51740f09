pub mod Changes
pub mod Naming
