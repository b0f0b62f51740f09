pub mod Outcomes
pub mod Desks
