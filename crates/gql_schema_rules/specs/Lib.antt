pub mod CycleFaults
pub mod RecursiveDirectiveDefinition
pub mod RecursiveInputObjectDefinition
pub mod RecursiveInterfaceDefinition
pub mod Scalars
pub mod SchemaFaults
