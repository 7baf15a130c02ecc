pub mod Few
pub mod Places
pub mod Nodes
pub mod Whole
