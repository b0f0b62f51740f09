pub mod Listed
pub mod Commands
pub mod Taking
pub mod Differing
pub mod Drafting
