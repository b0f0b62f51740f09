mod Counted
mod Closed
mod Splits
mod Reaching
mod Walked
mod Stepping
