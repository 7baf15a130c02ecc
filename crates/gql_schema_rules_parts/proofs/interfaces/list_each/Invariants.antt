use Rattle.std.proofs.Common.{◌≡◌, ◌++◌, drop}
use Rattle.std.specs.List.{flat_map}
use Rattle.gql_schema_rules_parts.specs.InterfaceRules.{listed_faults}
use Rattle.gql_schema_rules_parts.proofs.interfaces.list_each.Given as goal

-- what is listed and what is left make the whole
abbrev pub invariant-loop-name : goal.invariant-loop-name
invariant-loop-name l = l.faults ++ flat_map (listed_faults l.types l.ty l.fields) (drop l.name-index l.listed) ≡ l.fn.faults ++ flat_map (listed_faults l.types l.ty l.fields) l.listed
