pub mod Labels
pub mod Laying
pub mod Orders
mod Appended
pub mod Marking
pub mod Counted
pub mod MarkedWords
pub mod Told
pub mod Mandatory
pub mod MarkedProofs
mod Named
mod Readable
mod Nodes
mod Walked
mod Lettered
mod Printed
mod Numbering
mod Groups
mod Stacks
mod Added
pub mod Leading
