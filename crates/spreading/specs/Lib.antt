pub mod Words
pub mod Forms
pub mod Spreading
pub mod Views
