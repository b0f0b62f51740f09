pub mod Drafts
pub mod Limits
pub mod News
pub mod Refusals
