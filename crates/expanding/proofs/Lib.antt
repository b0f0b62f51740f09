pub mod Laying
pub mod Fronts
pub mod Gaps
pub mod PartsRanked
pub mod Placing
mod AskedWords
pub mod Commanding
pub mod Looking
pub mod Barring
pub mod Gathered
pub mod Moving
pub mod Fronting
pub mod Cutting
pub mod Renaming
pub mod Raising
pub mod Naming
