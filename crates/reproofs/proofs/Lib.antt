pub mod Reproved
pub mod ReproveReads
