pub mod Costing
pub mod Sum
pub mod Told
pub mod Walked
