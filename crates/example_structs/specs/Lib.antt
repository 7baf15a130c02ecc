pub mod Thing
pub mod Fields
