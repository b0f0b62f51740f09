pub mod Places
pub mod Proofs
pub mod Additions
pub mod Pasted
pub mod Quotes
pub mod Views
