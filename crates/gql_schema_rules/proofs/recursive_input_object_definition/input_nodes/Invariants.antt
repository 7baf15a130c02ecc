use Rattle.std.proofs.Common.{◌≡◌, ◌++◌, map, drop}
use Rattle.std.specs.List.{flat_map}
use Rattle.gql_schema_rules.specs.RecursiveInputObjectDefinition.{needed}
use Rattle.gql_schema_rules.proofs.recursive_input_object_definition.input_nodes.Given as goal

-- what is made and what is left make the whole
abbrev pub invariant-loop-field : goal.invariant-loop-field
invariant-loop-field l = l.nodes ++ flat_map (needed l.types) (drop l.field-index l.fields) ≡ flat_map (needed l.types) l.fields
