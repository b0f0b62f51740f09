pub mod Claims
pub mod Rule
