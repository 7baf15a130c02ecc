use Rattle.std.proofs.Common.{arith, ◌≡◌, ◌≤◌, ◌∷◌, [], ◌++◌, map, take, sym, ap, ◌∙◌}
use Rattle.std.specs.Map.{values_of}
use Rattle.jb_tree.specs.declared.value.Value.TheVariants as json
use Rattle.gql_rounds.specs.Told.{ask_value}
use Rattle.gql_rounds.proofs.Taken.{take-got}
use Rattle.gql_rounds.proofs.asks_json.asks_bytes.Goals as goal

pub loop-index-preserved : goal.loop-index-preserved
loop-index-preserved c =
    c.in_ok-push.ensures.pushed
    ∙ ap (λ l. l ++ c.in_ok-ask_value.field-0 ∷ []) c.loop-index.invariant
    ∙ ap (λ v. map ask_value (take c.loop-index.index (values_of c.args.asks.now)) ++ v ∷ []) c.in_ok-ask_value.ensures
    ∙ sym (take-got ask_value (values_of c.args.asks.now) c.loop-index.index c.value_at.result.now c.value_at.ensures)
