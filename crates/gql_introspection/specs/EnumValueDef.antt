-- The fields of `__EnumValue`: section 4.2.5 of GraphQL October 2021.
use Rattle.std.specs.Prelude.{ℕ, List, Option, Some, None, if◌then◌else◌, codes}
use Rattle.std.specs.Str.{bytes_eq}
use Rattle.gql_ast.specs.declared.field_definition.EnumValueDefinition.{EnumValueDefinition}
use Rattle.gql_resolvers.specs.Resolved.{Meaning}
use Rattle.gql_schema_types.specs.declared.schema.Schema.{Schema}
use Rattle.gql_introspection.specs.Answers.{text_leaf, truth_leaf, text_or_null}
use Rattle.gql_introspection.specs.Deprecation.{is_deprecated, deprecation_reason}
use Rattle.gql_introspection.specs.Meta.{Meta}

abbrev pub enum_value_row : Schema → EnumValueDefinition → List ℕ → Option (Meaning Meta)
enum_value_row schema value f =
    if bytes_eq f (codes "name") then Some (text_leaf value.value.text)
    else if bytes_eq f (codes "description") then Some (text_or_null value.description)
    else if bytes_eq f (codes "isDeprecated") then Some (truth_leaf (is_deprecated value.directives))
    else if bytes_eq f (codes "deprecationReason") then Some (text_or_null (deprecation_reason schema value.directives))
    else None
