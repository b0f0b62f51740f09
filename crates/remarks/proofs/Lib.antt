mod Heard
mod ByKind
mod Read
