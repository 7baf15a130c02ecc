-- A text of a schema that defines and extends nothing built in: sections 3.3, 3.4 and 3.13 of GraphQL October 2021.
use Rattle.std.specs.Prelude.{ℕ, List}
use Rattle.gql_client_schema_laws.specs.Shown.{IsOwn}
use Rattle.gql_parser.specs.SchemaText.{SchemaText}
use Rattle.gql_schema_types.specs.declared.schema.Schema.{Schema}

pub record IsOwnText (text : List ℕ) (schema : Schema) : Type 0 where
  pub means : SchemaText text schema
  pub own : IsOwn means.taken.user
