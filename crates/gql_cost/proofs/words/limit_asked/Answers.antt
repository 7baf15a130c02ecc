use Rattle.std.proofs.Common.{◌≡◌, ℕ, List, string_bytes, subst}
use Rattle.gql_engine.specs.DecimalWord.{IsDecimalWord}
use Rattle.gql_cost.proofs.TwoWords.{a-number, asks-two, two-words}
use Rattle.gql_cost.proofs.words.limit_asked.Goals as goal

pub returns-in_ok-nodes-in-len2 : goal.returns-in_ok-nodes-in-len2
returns-in_ok-nodes-in-len2 c =
    let items : IsDecimalWord c.as_str.result.now c.in_ok-items-in-len2.items =
    a-number c.as_str.result.now c.decimal_word.result c.in_ok-items-in-len2.items c.in_ok-items-in-len2.was c.decimal_word.ensures.is in
    let nodes : IsDecimalWord c.as_str-in-len2.result.now c.in_ok-nodes-in-len2.nodes =
    a-number c.as_str-in-len2.result.now c.decimal_word-in-len2.result c.in_ok-nodes-in-len2.nodes c.in_ok-nodes-in-len2.was c.decimal_word-in-len2.ensures.is in
    let first : c.as_str.result.now ≡ string_bytes c.items-item.result = cc c.as_str.ensures.value in
    let second : c.as_str-in-len2.result.now ≡ string_bytes c.nodes-item.result = cc c.as_str-in-len2.ensures.value in
    asks-two _ (string_bytes c.items-item.result) (string_bytes c.nodes-item.result)
    (record { items = c.in_ok-items-in-len2.items; nodes = c.in_ok-nodes-in-len2.nodes })
    (two-words string_bytes c.args.words.now c.items-item.result c.nodes-item.result c.in-len2.len_at_least c.in-len2.len_below c.items-item.is c.nodes-item.is)
    (subst (λ (w : List ℕ). IsDecimalWord w c.in_ok-items-in-len2.items) first items)
    (subst (λ (w : List ℕ). IsDecimalWord w c.in_ok-nodes-in-len2.nodes) second nodes)
