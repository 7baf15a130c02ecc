use Rattle.std.proofs.Common.{◌≡◌, ◌++◌, map, drop}
use Rattle.gql_schema_rules.specs.RecursiveDirectiveDefinition.{directive_edges}
use Rattle.gql_schema_rules.proofs.recursive_directive_definition.definition_rows.Given as goal

-- what is made and what is left make the whole
abbrev pub invariant-loop-definition : goal.invariant-loop-definition
invariant-loop-definition l = l.graph ++ map (directive_edges l.definitions l.types) (drop l.definition-index l.definition-items) ≡ map (directive_edges l.definitions l.types) l.definitions
