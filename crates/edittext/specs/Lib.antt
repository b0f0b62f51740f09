pub mod Edited
pub mod Refusals
pub mod Counts
pub mod Accounts
pub mod Finished
pub mod Answers
