pub mod Given
pub mod Causes
pub mod Refusals
pub mod Answers
pub mod Parts
pub mod Drafts
