pub mod Reports
pub mod Checkers
