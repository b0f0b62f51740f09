pub mod Derivation
pub mod Faults
pub mod FaultNames
pub mod Databases
pub mod Laws
pub mod Outcomes
pub mod Moves
pub mod Lookups
