mod Libraries
mod Long
mod Steps
