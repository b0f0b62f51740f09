pub mod Listing
pub mod Looking
