-- The fields `__schema` and `__type` of the root type of queries: section 4.2 of GraphQL October 2021.
use Rattle.std.specs.Prelude.{ℕ, List, Option, Some, None, option_and_then, codes}
use Rattle.std.specs.Map.{lookup}
use Rattle.std.specs.Str.{bytes_eq}
use Rattle.jb_tree.specs.Value.{string_text}
use Rattle.gql_resolvers.specs.Resolved.{Meaning, gives_object, fails_with}
use Rattle.gql_resolvers.specs.Meaning.{Members}
use Rattle.gql_schema_types.specs.declared.schema.Schema.{Schema}
use Rattle.gql_introspection.specs.Meta.{Meta, schema_meta}
use Rattle.gql_introspection.specs.NamedTypes.{named_type}

abbrev pub schema_field_meaning : Schema → Meaning Meta
schema_field_meaning schema = gives_object (schema_meta schema)

abbrev pub type_by : Schema → Option (List ℕ) → Meaning Meta
type_by schema (Some name) = named_type schema name
type_by schema None = fails_with (codes "expected string argument `name`")

-- the argument `name`, where it is a text
abbrev pub name_argument : Members → Option (List ℕ)
name_argument arguments = option_and_then string_text (lookup (bytes_eq (codes "name")) arguments)

-- the type that `name` names, null where the schema has none, and a failure where `name` is no text
abbrev pub type_field_meaning : Schema → Members → Meaning Meta
type_field_meaning schema arguments = type_by schema (name_argument arguments)
