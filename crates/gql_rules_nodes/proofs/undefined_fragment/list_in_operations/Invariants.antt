use Rattle.std.proofs.Common.{◌≡◌, ◌++◌, drop}
use Rattle.std.specs.List.{flat_map}
use Rattle.gql_rules_nodes.specs.UndefinedFragment.{in_operation}
use Rattle.gql_rules_nodes.proofs.undefined_fragment.list_in_operations.Given as goal

-- what is told and what is left make the whole
abbrev pub invariant-loop-operation : goal.invariant-loop-operation
invariant-loop-operation l = l.faults ++ flat_map (in_operation l.fragments) (drop l.operation-index l.operations) ≡ l.fn.faults ++ flat_map (in_operation l.fragments) l.operations
