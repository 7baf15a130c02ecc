use Rattle.std.proofs.Common.{◌≡◌, ◌++◌, map, drop}
use Rattle.std.specs.List.{flat_map}
use Rattle.gql_schema_rules.specs.RecursiveInterfaceDefinition.{interface_node}
use Rattle.gql_schema_rules.proofs.recursive_interface_definition.interface_nodes.Given as goal

-- what is made and what is left make the whole
abbrev pub invariant-loop-name : goal.invariant-loop-name
invariant-loop-name l = l.nodes ++ flat_map (interface_node l.types) (drop l.name-index l.names) ≡ flat_map (interface_node l.types) l.names
