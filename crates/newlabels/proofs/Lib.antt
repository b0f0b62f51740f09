pub mod Results
pub mod NewLabels
pub mod Relabelling
pub mod Touching
pub mod Added
pub mod RenameReads
