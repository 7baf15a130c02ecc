pub mod Equality
pub mod Identity
pub mod Levels
pub mod Members
pub mod Put
pub mod Sameness
pub mod Sorting
pub mod Tokens
