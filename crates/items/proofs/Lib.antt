mod Placed
pub mod Standing
mod Commented
mod Passed
mod Kinded
pub mod Reworded
pub mod Places
mod Stated
pub mod Spelled
mod Fronts
pub mod PutThen
pub mod Found
mod Indented
mod Divided
pub mod Sourced
pub mod Bare
