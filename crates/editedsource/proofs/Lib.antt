mod Unwrapped
mod Picked
