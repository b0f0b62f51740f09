mod WordsRead
mod Opened
mod Passed
mod Asserted
mod BlocksRead
mod Skipped
mod KeptBy
mod Walked
mod Stayed
pub mod InOrder
