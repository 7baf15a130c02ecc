pub mod Index
pub mod Pointer
