pub mod Entries
pub mod Places
pub mod Trunks
pub mod Testing
pub mod Listing
pub mod Citers
pub mod Changes
