use Rattle.std.proofs.Common.{◌≡◌, ◌++◌}
use Rattle.gql_parser.proofs.parse_field_set.push_all.Given as goal

-- what is there and what is left make the whole
abbrev pub invariant-loop-selection : goal.invariant-loop-selection
invariant-loop-selection l = l.list ++ l.selection-iterator ≡ l.fn.list ++ l.fn.selections
