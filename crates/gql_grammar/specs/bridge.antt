pub mod Decided
pub mod Ends
pub mod Lengths
pub mod Stands
pub mod Turns
