pub mod Fronting
pub mod Unlinking
pub mod Walking
pub mod Laying
pub mod Filled
pub mod Renaming
pub mod Chaining
