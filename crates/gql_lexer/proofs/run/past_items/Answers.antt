use Rattle.std.proofs.Common.{◌≡◌, ℕ, ◌+◌, ◌-◌, ◌<◌, ◌≤◌, ◌∙◌, List, sym, ap, length, take, drop, arith, length-drop}
use Rattle.std.proofs.lemmas.List.{take_all, drop-drop}
use Rattle.gql_lexer.specs.Lex.{run_len}
use Rattle.gql_lexer.specs.bridge.Lex.{item_len}
use Rattle.gql_lexer.proofs.Runs.{run_len-item, run_len-none}
use Rattle.gql_lexer.proofs.run.past_items.Goals as goal

-- `&at[end..]` is what follows `end`
rest : (end : ℕ) (at : List ℕ) → take (length at - end) (drop end at) ≡ drop end at
rest end at = take_all (length at - end) (drop end at) (omega (arith, length-drop end at))

pub returns-then-len-eq0-clause-value : goal.returns-then-len-eq0-clause-value
returns-then-len-eq0-clause-value c =
    let at = c.args.at.now in
    let end = c.loop-run.end in
    let none : item_len c.args.run (drop end at) ≡ 0 =
    ap (item_len c.args.run) (sym (rest end at)) ∙ sym c.item_len-len.ensures.value ∙ c.if-len-eq0.true in
    omega (arith, c.loop-run.invariant.0, run_len-none (item_len c.args.run) (drop end at) none)

pub loop-run-preserved : goal.loop-run-preserved
loop-run-preserved c =
    let at = c.args.at.now in
    let end = c.loop-run.end in
    let len = c.item_len-len.result in
    let is : len ≡ item_len c.args.run (drop end at) = c.item_len-len.ensures.value ∙ ap (item_len c.args.run) (rest end at) in
    let within : len ≤ length (drop end at) = rw (rest end at) at c.item_len-len.ensures.within in
    let some : 0 < len = omega (arith, c.if-len-eq0.false) in
    let more : run_len (item_len c.args.run) (drop end at) ≡ len + run_len (item_len c.args.run) (drop (end + len) at) =
    rw (← drop-drop len end at) (rw is (run_len-item (item_len c.args.run) (drop end at) (omega (arith, is, some)) (omega (arith, is, within)))) in
    (omega (arith, c.loop-run.invariant.0, more), omega (arith, c.loop-run.invariant.1), omega (arith, within, length-drop end at, c.loop-run.invariant.2))
