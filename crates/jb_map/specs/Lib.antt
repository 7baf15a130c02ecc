pub mod ByKey
pub mod Entry
pub mod Moved
pub mod Retained
pub mod formers
pub mod bridge
