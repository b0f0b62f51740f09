pub mod Scripts
pub mod ScriptFaults
pub mod ScriptViews
pub mod Laws
