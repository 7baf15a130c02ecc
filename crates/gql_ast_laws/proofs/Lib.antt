pub mod Rest
pub mod Levels
pub mod ReadBack
mod Rows
pub mod Constants
pub mod Kept
mod Values
mod Documents
mod FieldsIn
pub mod TokenKinds
pub mod Blind
pub mod Gathered
pub mod Inner
pub mod Places
pub mod Named
pub mod ValueMeaning
pub mod TypeMeaning
pub mod DirectiveMeaning
pub mod SelectionMeaning
pub mod OperationMeaning
pub mod FieldMeaning
pub mod DefinitionMeaning
pub mod SchemaMeaning
pub mod ExtensionMeaning
pub mod DocumentMeaning
pub mod Whole
pub mod Tops
pub mod Ways
pub mod Spelled
pub mod Shown
pub mod TypeFound
pub mod Extended
pub mod ExtensionFound
pub mod DefinitionFound
pub mod Total
pub mod Found
pub mod Tokens
pub mod Readings
pub mod Forests
