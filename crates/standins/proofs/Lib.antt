mod Freed
mod Raised
mod Candidates
mod Leaned
mod Gathered
mod Labelled
mod Pairs
mod Told
