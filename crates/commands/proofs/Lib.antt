pub mod TouchingAll
pub mod Transactions
pub mod Allowed
pub mod Taking
pub mod Reading
