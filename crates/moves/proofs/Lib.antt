pub mod AnotherRank
pub mod Citers
pub mod Ranking
pub mod MoveReads
