pub mod Words
pub mod Spoken
pub mod Views
pub mod Examples
