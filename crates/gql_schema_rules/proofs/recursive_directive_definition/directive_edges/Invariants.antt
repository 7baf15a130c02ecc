use Rattle.std.proofs.Common.{◌≡◌, ◌++◌, map, drop}
use Rattle.std.specs.List.{flat_map}
use Rattle.gql_schema_rules.specs.RecursiveDirectiveDefinition.{argument_edges, directive_edges}
use Rattle.gql_schema_rules.proofs.recursive_directive_definition.directive_edges.Given as goal

-- what is made and what is left make the whole
abbrev pub invariant-loop-argument : goal.invariant-loop-argument
invariant-loop-argument l = l.nodes ++ flat_map (argument_edges l.definitions l.types) (drop l.argument-index l.argument-items) ≡ directive_edges l.definitions l.types l.definition
