pub mod Built
pub mod Pairs
