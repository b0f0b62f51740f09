pub mod WordMaps
pub mod LabelMaps
pub mod BlockPlaces
pub mod PairsAgain
