use Rattle.std.proofs.Common.{◌≡◌, ◌+◌, ◌-◌, ◌≤◌, length, drop}
use Rattle.gql_lexer.specs.Lex.{run_len}
use Rattle.gql_lexer.specs.bridge.Lex.{item_len}
use Rattle.gql_lexer.proofs.run.past_items.Given as goal

abbrev pub invariant-loop-run : goal.invariant-loop-run
invariant-loop-run l =
    (l.end + run_len (item_len l.run) (drop l.end l.at) ≡ l.from + run_len (item_len l.run) (drop l.from l.at)) × (l.from ≤ l.end) × (l.end ≤ length l.at)

abbrev pub decreases-loop-run : goal.decreases-loop-run
decreases-loop-run l = length l.at - l.end
