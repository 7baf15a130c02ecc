pub mod Index
pub mod Places
pub mod Pointer
pub mod Rows
pub mod Same
pub mod Tree
pub mod Value
pub mod bridge
