pub mod File
pub mod Lines
pub mod Span
pub mod bridge
