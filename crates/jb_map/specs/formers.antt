pub mod pairs
