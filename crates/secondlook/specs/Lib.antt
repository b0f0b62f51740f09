pub mod Again
pub mod Looked
pub mod Differing
pub mod Compared
