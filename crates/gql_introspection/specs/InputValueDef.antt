-- The fields of `__InputValue`: section 4.2.4 of GraphQL October 2021.
use Rattle.std.specs.Prelude.{ℕ, List, Option, Some, None, if◌then◌else◌, codes}
use Rattle.std.specs.Option.{option_map}
use Rattle.std.specs.Str.{bytes_eq}
use Rattle.gql_ast.specs.declared.field_definition.InputValueDefinition.{InputValueDefinition}
use Rattle.gql_ast.specs.ValueText.{value_text}
use Rattle.gql_resolvers.specs.Resolved.{Meaning}
use Rattle.gql_schema_types.specs.declared.schema.Schema.{Schema}
use Rattle.gql_introspection.specs.Answers.{text_leaf, truth_leaf, text_or_null}
use Rattle.gql_introspection.specs.Deprecation.{is_deprecated, deprecation_reason}
use Rattle.gql_introspection.specs.Meta.{Meta}
use Rattle.gql_introspection.specs.NamedTypes.{type_meaning}

-- a default value is given as its text
abbrev pub input_value_row : Schema → InputValueDefinition → List ℕ → Option (Meaning Meta)
input_value_row schema value f =
    if bytes_eq f (codes "name") then Some (text_leaf value.name.text)
    else if bytes_eq f (codes "description") then Some (text_or_null value.description)
    else if bytes_eq f (codes "type") then Some (type_meaning schema value.ty)
    else if bytes_eq f (codes "defaultValue") then Some (text_or_null (option_map value_text value.default_value))
    else if bytes_eq f (codes "isDeprecated") then Some (truth_leaf (is_deprecated value.directives))
    else if bytes_eq f (codes "deprecationReason") then Some (text_or_null (deprecation_reason schema value.directives))
    else None
