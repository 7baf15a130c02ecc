-- What the fields of the objects of introspection are: section 4.2 of GraphQL October 2021.
use Rattle.std.specs.Prelude.{ℕ, List, Option, Some, None}
use Rattle.gql_resolvers.specs.Resolved.{Meaning, fails_with}
use Rattle.gql_resolvers.specs.Meaning.{Members}
use Rattle.gql_resolvers.specs.UnknownField.{unknown_field}
use Rattle.gql_introspection.specs.DirectiveDef.{directive_row}
use Rattle.gql_introspection.specs.EnumValueDef.{enum_value_row}
use Rattle.gql_introspection.specs.FieldDef.{field_row}
use Rattle.gql_introspection.specs.InputValueDef.{input_value_row}
use Rattle.gql_introspection.specs.Meta.{Meta, schema_meta, type_def, wrapped, directive_def, field_def, enum_value_def, input_value_def, type_name_of}
use Rattle.gql_introspection.specs.SchemaMeta.{schema_row}
use Rattle.gql_introspection.specs.TypeDef.{type_row}
use Rattle.gql_introspection.specs.Wrapped.{wrapped_row}

-- the field of this name, where the object has one
abbrev pub meta_row : Meta → List ℕ → Members → Option (Meaning Meta)
meta_row (schema_meta schema) f arguments = schema_row schema f
meta_row (type_def schema ty) f arguments = type_row schema ty f arguments
meta_row (wrapped schema ty stripped) f arguments = wrapped_row schema ty stripped f
meta_row (directive_def schema directive) f arguments = directive_row schema directive f arguments
meta_row (field_def schema field) f arguments = field_row schema field f arguments
meta_row (enum_value_def schema value) f arguments = enum_value_row schema value f
meta_row (input_value_def schema value) f arguments = input_value_row schema value f

abbrev pub or_unknown : Option (Meaning Meta) → Meta → List ℕ → Meaning Meta
or_unknown (Some answer) object f = answer
or_unknown None object f = fails_with (unknown_field f (type_name_of object))

-- an unknown field is a failure
abbrev pub meta_meaning : Meta → List ℕ → Members → Meaning Meta
meta_meaning object f arguments = or_unknown (meta_row object f arguments) object f
