use Rattle.std.proofs.Common.{◌≡◌, ◌++◌, drop}
use Rattle.std.specs.List.{flat_map}
use Rattle.gql_schema_rules_parts.specs.InterfaceRules.{field_faults}
use Rattle.gql_schema_rules_parts.proofs.interfaces.list_fields.Given as goal

-- what is listed and what is left make the whole
abbrev pub invariant-loop-wanted : goal.invariant-loop-wanted
invariant-loop-wanted l = l.faults ++ flat_map (field_faults l.types l.ty l.interface.name l.fields) (drop l.wanted-index l.wanted-items) ≡ l.fn.faults ++ flat_map (field_faults l.types l.ty l.interface.name l.fields) l.interface.fields
