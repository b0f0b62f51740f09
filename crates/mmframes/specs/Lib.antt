pub mod Frames
pub mod Places
pub mod Substitution
pub mod SubstituteErrors
