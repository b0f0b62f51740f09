pub mod Standing
pub mod Trying
