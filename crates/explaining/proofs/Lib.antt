pub mod Lists
pub mod Concluded
pub mod Stepped
pub mod Earlier
pub mod Bare
pub mod Told
