pub mod Editors
pub mod Openings
pub mod Replays
pub mod OneChanged
pub mod Errors
pub mod Drafts
pub mod Refusals
