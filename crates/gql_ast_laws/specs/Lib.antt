pub mod Printed
-- The defaults of a document's definitions.
pub mod Constants
pub mod Defaults
pub mod FieldsIn
-- What a text stands for.
pub mod Meant
pub mod Complete
