pub mod Lined
pub mod Cuts
pub mod Shown
pub mod Ended
pub mod Signs
pub mod Worded
pub mod Spoken
