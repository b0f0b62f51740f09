pub mod Below
pub mod ShowReads
