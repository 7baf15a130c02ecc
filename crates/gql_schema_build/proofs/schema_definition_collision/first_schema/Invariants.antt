use Rattle.std.proofs.Common.{◌≡◌, ◌++◌, None, fold}
use Rattle.gql_schema_build.specs.SchemaDefinitionCollision.{with_schema, collisions_after, schema_definition_collisions}
use Rattle.gql_schema_build.proofs.schema_definition_collision.first_schema.Given as goal

-- what is there and what is left make the whole
abbrev pub invariant-loop-schema : goal.invariant-loop-schema
invariant-loop-schema l = record {
  first : fold with_schema l.first l.schema-iterator ≡ fold with_schema None l.fn.schemas;
  faults : l.faults ++ collisions_after l.first l.schema-iterator ≡ l.fn.faults ++ schema_definition_collisions l.fn.schemas;
}
