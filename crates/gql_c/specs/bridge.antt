pub mod Costs
pub mod Data
pub mod Handles
pub mod Outcomes
pub mod Requests
