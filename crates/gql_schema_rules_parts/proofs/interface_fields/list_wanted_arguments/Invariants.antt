use Rattle.std.proofs.Common.{◌≡◌, ◌++◌, [], take, drop}
use Rattle.gql_schema_rules_parts.specs.InterfaceRules.{wanted_after}
use Rattle.gql_schema_rules_parts.proofs.interface_fields.list_wanted_arguments.Given as goal

-- what is listed and what is left make the whole
abbrev pub invariant-loop-at : goal.invariant-loop-at
invariant-loop-at l =
    l.faults ++ wanted_after l.types l.ty l.interface l.field (take l.at l.arguments) (drop l.at l.arguments) ≡ l.fn.faults ++ wanted_after l.types l.ty l.interface l.field [] l.arguments
