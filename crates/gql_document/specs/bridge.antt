pub mod FaultsBelow
pub mod Leaves
pub mod Made
pub mod OperationNameCollision
pub mod RootWalk
pub mod SubscriptionUsesMultipleFields
