pub mod Covers
pub mod NextByKey
