pub mod Findings
pub mod Shown
