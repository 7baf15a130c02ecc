pub mod ConflictingFieldArgument
pub mod ConflictingFieldName
pub mod ConflictingFieldType
pub mod FieldSelectionMerging
pub mod Numbering
pub mod ResponseKeys
pub mod SameValue
pub mod bridge
