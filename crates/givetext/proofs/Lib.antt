pub mod Looked
mod Numbers
mod Orders
mod Stopped
