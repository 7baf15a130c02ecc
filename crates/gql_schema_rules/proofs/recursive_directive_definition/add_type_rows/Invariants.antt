use Rattle.std.proofs.Common.{◌≡◌, ◌++◌, map, drop}
use Rattle.gql_schema_rules.specs.RecursiveDirectiveDefinition.{type_edges}
use Rattle.gql_schema_rules.proofs.recursive_directive_definition.add_type_rows.Given as goal

-- what is made and what is left make the whole
abbrev pub invariant-loop-ty : goal.invariant-loop-ty
invariant-loop-ty l = l.graph ++ map (type_edges l.definitions) (drop l.ty-index l.types) ≡ l.fn.graph ++ map (type_edges l.definitions) l.types
