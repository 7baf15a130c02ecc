pub mod Proper
pub mod Reply
