use Rattle.std.proofs.Common.{length, refl, ap, ◌∙◌}
use Rattle.std.specs.Prelude.{not}
use Rattle.std.proofs.lemmas.Option.{slice_get_read}
use Rattle.gql_rounds.specs.Told.{answer_in}
use Rattle.gql_rounds.proofs.Items.{none-seen}
use Rattle.gql_rounds.proofs.answers_json.first_other.Goals as goal

pub returns-then-is_none : goal.returns-then-is_none
returns-then-is_none c =
    let items = c.args.items.now in
    let item = c.index-items-index.result in
    record {
      item = item;
      at = slice_get_read items (length items) c.loop-index.index item refl c.loop-index-test.true c.index-items-index.is;
      none = none-seen c.answer_in.result (answer_in item) c.answer_in.ensures (c.is_none.ensures ∙ ap not c.if-is_none.true);
      before = c.loop-index.invariant;
    }
