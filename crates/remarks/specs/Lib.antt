pub mod Remarks
pub mod Views
