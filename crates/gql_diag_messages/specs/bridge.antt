pub mod RuleText
