use Rattle.std.proofs.Common.{◌≡◌, ◌++◌, drop}
use Rattle.std.specs.List.{flat_map}
use Rattle.gql_schema_rules_parts.specs.InterfaceRules.{type_faults, interfaces_faults}
use Rattle.gql_schema_rules_parts.proofs.interfaces.list_interfaces.Given as goal

-- what is listed and what is left make the whole
abbrev pub invariant-loop-ty : goal.invariant-loop-ty
invariant-loop-ty l = l.faults ++ flat_map (type_faults l.types) (drop l.ty-index l.ty-items) ≡ l.fn.faults ++ interfaces_faults l.types
