mod Quoting
pub mod Adding
pub mod Citable
pub mod Known
pub mod Labelled
pub mod Pasting
pub mod Picked
pub mod Reproving
pub mod Sized
pub mod Spoken
pub mod Told
pub mod Unnamed
