pub mod Conclusions
pub mod Spans
