mod Dealt
mod Plain
