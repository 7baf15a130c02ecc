pub mod Pairs
pub mod Ranks
pub mod Chains
pub mod Cycles
pub mod Flooding
pub mod Graph
pub mod bridge
