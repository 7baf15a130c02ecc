pub mod Filled
pub mod RuleText
pub mod NamedType
pub mod Details
pub mod Family
pub mod bridge
