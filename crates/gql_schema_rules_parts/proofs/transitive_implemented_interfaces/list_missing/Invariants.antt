use Rattle.std.proofs.Common.{◌≡◌, ◌++◌, drop}
use Rattle.gql_schema_rules_parts.specs.TransitiveImplementedInterfaces.{missing, told_after}
use Rattle.gql_schema_rules_parts.proofs.transitive_implemented_interfaces.list_missing.Given as goal

-- what is told and what is left make the whole
abbrev pub invariant-loop-interface : goal.invariant-loop-interface
invariant-loop-interface l = record {
  told : told_after l.types l.listed l.told (drop l.interface-index l.interfaces) ≡ told_after l.types l.listed l.fn.told l.interfaces;
  faults : l.faults ++ missing l.types l.ty l.listed l.told (drop l.interface-index l.interfaces) ≡ l.fn.faults ++ missing l.types l.ty l.listed l.fn.told l.interfaces;
}
