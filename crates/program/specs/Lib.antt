pub mod Summaries
pub mod Endings
pub mod Edits
pub mod Obeying
