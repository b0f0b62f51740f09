mod Actives
mod Keeping
mod Listing
mod Noted
mod Places
mod Siting
mod Apart
mod Flags
pub mod Refusing
