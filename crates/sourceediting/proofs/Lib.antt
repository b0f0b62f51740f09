pub mod Labels
pub mod Origins
pub mod Marks
pub mod Histories
pub mod Others
pub mod Rewritten
mod Labelled
mod Indented
mod Cited
mod Numbered
mod Bared
mod Unwritten
mod PutIn
mod Known
mod Members
mod Compressed
