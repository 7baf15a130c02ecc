pub mod Implementing
pub mod Indexed
pub mod Joins
pub mod Lookups
pub mod Entries
