pub mod Exported
pub mod Errors
