mod Passed
mod Growing
mod Admitted
