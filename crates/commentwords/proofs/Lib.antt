mod Across
mod Unquoted
pub mod Unchanged
