mod Histories
mod Outcomes
mod Taking
mod Doing
mod Scripts
