pub mod Opening
pub mod Refusals
pub mod Views
