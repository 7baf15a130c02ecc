pub mod Called
pub mod Entries
pub mod Implementers
pub mod MetaFields
pub mod Schemas
pub mod Types
pub mod bridge
