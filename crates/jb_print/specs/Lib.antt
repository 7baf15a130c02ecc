pub mod Quoted
pub mod Compact
pub mod Pretty
pub mod bridge
