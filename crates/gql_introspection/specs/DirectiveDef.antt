-- The fields of `__Directive`: section 4.2.6 of GraphQL October 2021.
use Rattle.std.specs.Prelude.{ℕ, List, map, Option, Some, None, if◌then◌else◌, codes}
use Rattle.std.specs.Str.{bytes_eq}
use Rattle.gql_ast.specs.declared.schema_definition.DirectiveDefinition.{DirectiveDefinition}
use Rattle.gql_ast.specs.Schemas.{location_name}
use Rattle.gql_resolvers.specs.Resolved.{Meaning}
use Rattle.gql_resolvers.specs.Meaning.{Members}
use Rattle.gql_schema_types.specs.declared.schema.Schema.{Schema}
use Rattle.gql_introspection.specs.Answers.{text_leaf, truth_leaf, text_or_null, texts}
use Rattle.gql_introspection.specs.Kept.{kept_input_values}
use Rattle.gql_introspection.specs.Meta.{Meta}

abbrev pub directive_row : Schema → DirectiveDefinition → List ℕ → Members → Option (Meaning Meta)
directive_row schema directive f arguments =
    if bytes_eq f (codes "name") then Some (text_leaf directive.name.text)
    else if bytes_eq f (codes "description") then Some (text_or_null directive.description)
    else if bytes_eq f (codes "locations") then Some (texts (map location_name directive.locations))
    else if bytes_eq f (codes "args") then Some (kept_input_values schema arguments directive.arguments)
    else if bytes_eq f (codes "isRepeatable") then Some (truth_leaf directive.repeatable)
    else None
