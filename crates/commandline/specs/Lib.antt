pub mod CommandLine
pub mod Orders
pub mod TakeOrders
pub mod GiveOrders
pub mod VerifyOrders
pub mod EditOrders
