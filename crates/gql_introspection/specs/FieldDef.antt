-- The fields of `__Field`: section 4.2.3 of GraphQL October 2021.
use Rattle.std.specs.Prelude.{ℕ, List, Option, Some, None, if◌then◌else◌, codes}
use Rattle.std.specs.Str.{bytes_eq}
use Rattle.gql_ast.specs.declared.field_definition.FieldDefinition.{FieldDefinition}
use Rattle.gql_resolvers.specs.Resolved.{Meaning}
use Rattle.gql_resolvers.specs.Meaning.{Members}
use Rattle.gql_schema_types.specs.declared.schema.Schema.{Schema}
use Rattle.gql_introspection.specs.Answers.{text_leaf, truth_leaf, text_or_null}
use Rattle.gql_introspection.specs.Deprecation.{is_deprecated, deprecation_reason}
use Rattle.gql_introspection.specs.Kept.{kept_input_values}
use Rattle.gql_introspection.specs.Meta.{Meta}
use Rattle.gql_introspection.specs.NamedTypes.{type_meaning}

abbrev pub field_row : Schema → FieldDefinition → List ℕ → Members → Option (Meaning Meta)
field_row schema field f arguments =
    if bytes_eq f (codes "name") then Some (text_leaf field.name.text)
    else if bytes_eq f (codes "description") then Some (text_or_null field.description)
    else if bytes_eq f (codes "args") then Some (kept_input_values schema arguments field.arguments)
    else if bytes_eq f (codes "type") then Some (type_meaning schema field.ty)
    else if bytes_eq f (codes "isDeprecated") then Some (truth_leaf (is_deprecated field.directives))
    else if bytes_eq f (codes "deprecationReason") then Some (text_or_null (deprecation_reason schema field.directives))
    else None
