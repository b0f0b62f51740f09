mod Beside
mod FirstWords
mod Printed
mod Depths
pub mod Known
mod Laid
mod Anew
mod Said
mod Under
pub mod Spelled
