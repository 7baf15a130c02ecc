-- The fields of `__Schema`: section 4.2.1 of GraphQL October 2021.
use Rattle.std.specs.Prelude.{ℕ, List, map, Option, Some, None, if◌then◌else◌, codes}
use Rattle.std.specs.Str.{bytes_eq}
use Rattle.gql_resolvers.specs.Resolved.{Meaning}
use Rattle.gql_schema_types.specs.declared.schema.Schema.{Schema}
use Rattle.gql_introspection.specs.Answers.{text_or_null, objects}
use Rattle.gql_introspection.specs.Meta.{Meta, type_def, directive_def}
use Rattle.gql_introspection.specs.NamedTypes.{root_type}

-- types and directives come in the order of the schema
abbrev pub schema_row : Schema → List ℕ → Option (Meaning Meta)
schema_row schema f =
    let definition = schema.schema_definition in
    if bytes_eq f (codes "description") then Some (text_or_null definition.description)
    else if bytes_eq f (codes "types") then Some (objects (map (type_def schema) schema.types))
    else if bytes_eq f (codes "queryType") then Some (root_type schema definition.query)
    else if bytes_eq f (codes "mutationType") then Some (root_type schema definition.mutation)
    else if bytes_eq f (codes "subscriptionType") then Some (root_type schema definition.subscription)
    else if bytes_eq f (codes "directives") then Some (objects (map (directive_def schema) schema.directive_definitions))
    else None
