pub mod Citers
