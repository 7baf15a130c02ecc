use Rattle.std.proofs.Common.{◌≡◌, ◌++◌, [], map}
use Rattle.gql_schema_types.specs.Entries.{joined, repeats}
use Rattle.gql_schema_build.specs.DirectiveDefinitionCollision.{directive_name, second_directive, directive_definition_collisions}
use Rattle.gql_schema_build.proofs.directive_definition_collision.first_directives.Given as goal

-- what is there and what is left make the whole
abbrev pub invariant-loop-definition : goal.invariant-loop-definition
invariant-loop-definition l = record {
  table : joined directive_name l.table l.definition-iterator ≡ joined directive_name [] l.fn.definitions;
  faults : l.faults ++ map second_directive (repeats directive_name l.table l.definition-iterator) ≡ l.fn.faults ++ directive_definition_collisions l.fn.definitions;
}
