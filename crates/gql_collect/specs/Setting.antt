-- What stays the same while fields are collected.
use Rattle.std.specs.Prelude.{List}
use Rattle.gql_document_types.specs.declared.fragment.Fragment.{Fragment}
use Rattle.gql_schema_types.specs.declared.schema.Schema.{Schema}
use Rattle.gql_schema_types.specs.declared.types.ObjectType.{ObjectType}
use Rattle.gql_collect.specs.Kept.{Variables}

-- the document's fragments, the schema, the object type, and the values of the variables
pub record Setting : Type 0 where
  pub fragments : List Fragment
  pub schema : Schema
  pub object : ObjectType
  pub variables : Variables
