use Rattle.std.proofs.Common.{◌≡◌, ◌++◌, map, drop}
use Rattle.gql_schema_rules.specs.RecursiveInputObjectDefinition.{input_edges, input_graph}
use Rattle.gql_schema_rules.proofs.recursive_input_object_definition.input_graph.Given as goal

-- what is made and what is left make the whole
abbrev pub invariant-loop-ty : goal.invariant-loop-ty
invariant-loop-ty l = l.graph ++ map (input_edges l.types) (drop l.ty-index l.ty-items) ≡ input_graph l.types
