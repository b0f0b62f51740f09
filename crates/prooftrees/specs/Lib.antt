pub mod Frames
pub mod Roles
pub mod Names
pub mod Forms
