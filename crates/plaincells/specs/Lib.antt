pub mod Plain
pub mod PlainViews
pub mod Measures
pub mod Opening
pub mod Reasons
