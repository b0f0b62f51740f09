pub mod Views
pub mod Standing
pub mod Takings
