pub mod WordMaps
pub mod Labels
pub mod HypothesisPlaces
pub mod StandingPairs
pub mod Views
