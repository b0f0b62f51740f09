pub mod Spans
pub mod Coded
pub mod Written
pub mod Shown
pub mod Answers
pub mod Found
pub mod Checkers
