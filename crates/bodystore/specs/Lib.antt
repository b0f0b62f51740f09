pub mod Bodies
pub mod Stages
pub mod Laws
pub mod Citing
pub mod Listing
