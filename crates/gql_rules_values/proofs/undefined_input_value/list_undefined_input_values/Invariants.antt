use Rattle.std.proofs.Common.{◌≡◌, ◌++◌, drop}
use Rattle.gql_rules_values.specs.UndefinedInputValue.{undefined_input_values}
use Rattle.gql_rules_values.proofs.undefined_input_value.list_undefined_input_values.Given as goal

-- what is listed and what is left make the whole
abbrev pub invariant-loop-member : goal.invariant-loop-member
invariant-loop-member l = l.faults ++ undefined_input_values l.it l.literal (drop l.member-index l.members) ≡ l.fn.faults ++ undefined_input_values l.it l.literal l.members
