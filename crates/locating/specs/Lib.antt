pub mod Lines
pub mod Fronts
pub mod Steps
pub mod Taken
pub mod Rules
pub mod Told
