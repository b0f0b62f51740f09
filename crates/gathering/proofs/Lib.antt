pub mod LeftOut
pub mod Listable
pub mod Reasons
pub mod Forms
mod Premised
mod Said
mod Stated
mod Known
mod Placing
mod Going
