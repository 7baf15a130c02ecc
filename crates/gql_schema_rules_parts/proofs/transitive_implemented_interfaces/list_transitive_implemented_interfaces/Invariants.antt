use Rattle.std.proofs.Common.{◌≡◌, ◌++◌, [], drop}
use Rattle.gql_schema_rules_parts.specs.TransitiveImplementedInterfaces.{missing_by}
use Rattle.gql_schema_rules_parts.proofs.transitive_implemented_interfaces.list_transitive_implemented_interfaces.Given as goal

-- what is listed and what is left make the whole
abbrev pub invariant-loop-name : goal.invariant-loop-name
invariant-loop-name l = l.faults ++ missing_by l.types l.ty l.listed l.told (drop l.name-index l.listed) ≡ l.fn.faults ++ missing_by l.types l.ty l.listed [] l.listed
