use Rattle.std.proofs.Common.{◌≡◌, ◌++◌, [], take, drop}
use Rattle.gql_schema_rules_parts.specs.InterfaceRules.{extra_after}
use Rattle.gql_schema_rules_parts.proofs.interface_fields.list_extra_arguments.Given as goal

-- what is listed and what is left make the whole
abbrev pub invariant-loop-at : goal.invariant-loop-at
invariant-loop-at l =
    l.faults ++ extra_after l.ty l.interface l.wanted l.field (take l.at l.arguments) (drop l.at l.arguments) ≡ l.fn.faults ++ extra_after l.ty l.interface l.wanted l.field [] l.arguments
