pub mod Behind
pub mod Followed
pub mod Taken
pub mod GivenBack
pub mod Asked
pub mod Inputs
