pub mod Merged
pub mod TypeDefinitionCollision
