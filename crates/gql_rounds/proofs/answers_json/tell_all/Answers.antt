use Rattle.std.proofs.Common.{length, refl, ap, sym, ◌∙◌}
use Rattle.std.proofs.lemmas.Option.{slice_get_read}
use Rattle.gql_rounds.specs.Table.{Table}
use Rattle.gql_rounds.specs.Told.{answer_in, told_answer}
use Rattle.gql_rounds.proofs.Items.{told-next}
use Rattle.gql_rounds.proofs.answers_json.tell_all.Goals as goal

pub loop-item-preserved : goal.loop-item-preserved
loop-item-preserved c =
    let items = c.args.items.now in
    let item = c.item-item.result in
    let at = slice_get_read items (length items) c.loop-item.item-index item refl c.loop-item-test.true c.item-item.is in
    c.in_ok-tell_item.ensures.told
    ∙ (ap (λ (table : Table). told_answer table (answer_in item)) c.loop-item.invariant
    ∙ sym (told-next c.args.answers.now items c.loop-item.item-index item at))
