pub mod Actives
pub mod Indexes
pub mod Sites
pub mod Used
pub mod Given
pub mod Changes
pub mod Namings
