pub mod Words
pub mod Text
pub mod Languages
pub mod Comments
pub mod FaultNames
pub mod Views
pub mod Takings
pub mod Laws
