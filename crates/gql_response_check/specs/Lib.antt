pub mod Verdict
pub mod bridge
