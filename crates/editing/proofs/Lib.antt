pub mod Shares
mod Covers
mod DoneNumbers
mod Told
mod Leaving
