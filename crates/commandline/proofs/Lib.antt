pub mod Lines
pub mod Numbers
pub mod Tasks
pub mod Edits
