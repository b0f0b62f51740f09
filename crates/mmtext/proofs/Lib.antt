pub mod Tokens
pub mod Marks
pub mod Readings
pub mod Turns
pub mod TextLaws
