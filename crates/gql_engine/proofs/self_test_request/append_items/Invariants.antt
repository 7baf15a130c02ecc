-- The items of the numbers below `number` are written.
use Rattle.std.proofs.Common.{◌≡◌, ◌++◌, ◌-◌, ◌≤◌, string_bytes}
use Rattle.gql_engine.specs.SelfTest.{items}
use Rattle.gql_engine.proofs.self_test_request.append_items.Given as goal

abbrev pub invariant-loop-number : goal.invariant-loop-number
invariant-loop-number l = (l.number ≤ l.count) × (string_bytes l.out ≡ string_bytes l.initial.out ++ items l.number)

abbrev pub decreases-loop-number : goal.decreases-loop-number
decreases-loop-number l = l.count - l.number
