pub mod Each
pub mod Filling
pub mod Known
pub mod Numerals
