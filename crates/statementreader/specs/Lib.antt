pub mod Views
pub mod Recalls
pub mod Takings
pub mod Standing
pub mod UnitReadings
pub mod UnitViews
pub mod Readers
pub mod Laws
