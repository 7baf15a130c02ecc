use Rattle.std.proofs.Common.{◌≡◌, ◌++◌, map, drop}
use Rattle.gql_schema_rules.specs.RecursiveInterfaceDefinition.{interface_edges, interface_graph}
use Rattle.gql_schema_rules.proofs.recursive_interface_definition.interface_graph.Given as goal

-- what is made and what is left make the whole
abbrev pub invariant-loop-ty : goal.invariant-loop-ty
invariant-loop-ty l = l.graph ++ map (interface_edges l.types) (drop l.ty-index l.ty-items) ≡ interface_graph l.types
