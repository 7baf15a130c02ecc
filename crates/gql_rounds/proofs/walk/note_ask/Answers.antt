use Rattle.std.proofs.Common.{ℕ, List, is_some, sym, ap, ◌∙◌}
use Rattle.std.specs.Map.{lookup}
use Rattle.std.specs.Str.{bytes_eq}
use Rattle.gql_rounds.proofs.AbsentKeys.{no-place}
use Rattle.gql_rounds.proofs.walk.note_ask.Goals as goal

pub insert_new-requires : goal.insert_new-requires
insert_new-requires c =
    let asks = c.args.asks.now in
    no-place c.in_ok-key-2.key asks
    (ap (λ (k : List ℕ). is_some (lookup (bytes_eq k) asks)) (c.in_ok-key-2.ensures ∙ c.as_str-3.ensures ∙ sym c.as_str.ensures)
    ∙ sym c.contains_key.ensures ∙ c.if-contains_key.false)
