use Rattle.std.proofs.Common.{◌≡◌, ◌++◌, drop}
use Rattle.std.specs.List.{flat_map}
use Rattle.gql_schema_rules_parts.specs.TypeRules.{type_faults, types_faults}
use Rattle.gql_schema_rules_parts.proofs.types.list_types.Given as goal

-- what is listed and what is left make the whole
abbrev pub invariant-loop-ty : goal.invariant-loop-ty
invariant-loop-ty l = l.faults ++ flat_map (type_faults l.schema) (drop l.ty-index l.ty-items) ≡ l.fn.faults ++ types_faults l.schema
