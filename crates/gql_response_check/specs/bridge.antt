pub mod Finds
pub mod Shares
pub mod Views
