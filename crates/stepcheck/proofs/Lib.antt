pub mod Apart
pub mod LookedUp
pub mod Replaced
pub mod Spans
mod FewPlaces
mod Typed
