pub mod Pieces
pub mod Forms
pub mod Definitions
pub mod Schemas
