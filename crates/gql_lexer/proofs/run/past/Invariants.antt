use Rattle.std.proofs.Common.{◌≡◌, ◌+◌, ◌-◌, ◌≤◌, length, drop}
use Rattle.std.specs.List.{prefix_len}
use Rattle.gql_lexer.specs.Lex.{is_in}
use Rattle.gql_lexer.proofs.run.past.Given as goal

abbrev pub invariant-loop-end : goal.invariant-loop-end
invariant-loop-end l =
    (l.end + prefix_len (is_in l.run) (drop l.end l.at) ≡ l.from + prefix_len (is_in l.run) (drop l.from l.at)) × (l.from ≤ l.end) × (l.end ≤ length l.at)

abbrev pub decreases-loop-end : goal.decreases-loop-end
decreases-loop-end l = length l.at - l.end
