pub mod Verdicts
pub mod FindingLines
pub mod Lines
pub mod Answers
