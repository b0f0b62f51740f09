pub mod Grammar
pub mod Places
pub mod Layout
pub mod Laws
pub mod Views
