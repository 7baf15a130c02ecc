-- A schema is defined once: section 3.3 of GraphQL October 2021.
use Rattle.std.specs.Prelude.{List, [], ◌∷◌, ◌++◌, Option, Some, None, fold, is_some, if◌then◌else◌}
use Rattle.std.specs.Option.{option_map_or}
use Rattle.gql_ast.specs.declared.schema_definition.SchemaDefinition.{SchemaDefinition}
use Rattle.gql_diag_messages.specs.declared.rule.Rule.TheVariants.{SchemaDefinitionCollision}
use Rattle.gql_diag_messages.specs.declared.diagnostic_data.DiagnosticData.{DiagnosticData}
use Rattle.gql_schema_build.specs.Faults.{fault}

-- the first `schema` so far
abbrev pub with_schema : Option SchemaDefinition → SchemaDefinition → Option SchemaDefinition
with_schema first schema = if is_some first then first else Some schema

abbrev pub first_schema : List SchemaDefinition → Option SchemaDefinition
first_schema schemas = fold with_schema None schemas

abbrev pub schema_definition_collision : Option SchemaDefinition → SchemaDefinition → List DiagnosticData
schema_definition_collision first schema = option_map_or (λ (d : SchemaDefinition). fault SchemaDefinitionCollision [] schema.location d.location ∷
    []) first []

-- one for each `schema` that comes after the first
abbrev pub collisions_after : Option SchemaDefinition → List SchemaDefinition → List DiagnosticData
collisions_after first [] = []
collisions_after first (schema ∷ schemas) = schema_definition_collision first schema ++ collisions_after (with_schema first schema) schemas

abbrev pub schema_definition_collisions : List SchemaDefinition → List DiagnosticData
schema_definition_collisions schemas = collisions_after None schemas
