pub mod Recited
pub mod Replaced
pub mod Taking
pub mod ReplaceReads
