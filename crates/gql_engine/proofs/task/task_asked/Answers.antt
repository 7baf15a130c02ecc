use Rattle.std.proofs.Common.{◌≡◌, ℕ, List, Option, MatchOption, string_bytes, codes, sym, ◌∙◌, subst, Some}
use Rattle.std.proofs.lemmas.Slice.Eq.{bytes_eq-Decides}
use Rattle.gql_engine.specs.Task.{IsCount}
use Rattle.gql_engine.specs.bridge.Task.{IsNoCount}
use Rattle.gql_engine.specs.declared.task.Wish.TheVariants.{Answer, Check}
use Rattle.gql_engine.proofs.Words.{asks_by_count, asks_by_name, one_word, two_words}
use Rattle.gql_engine.proofs.task.task_asked.Goals as goal

counted : (word : List ℕ) (found : Option ℕ) (n : ℕ) → found ≡ Some n → MatchOption found (IsNoCount word) (IsCount word) → IsCount word n
counted word found n is h = subst (λ (x : Option ℕ). MatchOption x (IsNoCount word) (IsCount word)) is h

pub returns-in-len1 : goal.returns-in-len1
returns-in-len1 c =
    let named : c.as_str.result.now ≡ codes "answer" = (bytes_eq-Decides c.as_str.result.now (codes "answer")).0 (sym c.eq.ensures ∙ c.if-eq.true) in
    let word : string_bytes c.word-item.result ≡ codes "answer" = cc (c.as_str.ensures.value, named) in
    asks_by_name _ (string_bytes c.word-item.result) Answer
    (one_word string_bytes c.args.words.now c.word-item.result c.in-len1.len_at_least c.in-len1.len_below c.word-item.is) word

pub returns-in-len1-2 : goal.returns-in-len1-2
returns-in-len1-2 c =
    let named : c.as_str-then-words-lt2.result.now ≡ codes "check" =
    (bytes_eq-Decides c.as_str-then-words-lt2.result.now (codes "check")).0 (sym c.eq-then-words-lt2.ensures ∙ c.if-eq-2.true) in
    let word : string_bytes c.word-item-then-words-lt2.result ≡ codes "check" = cc (c.as_str-then-words-lt2.ensures.value, named) in
    asks_by_name _ (string_bytes c.word-item-then-words-lt2.result) Check
    (one_word string_bytes c.args.words.now c.word-item-then-words-lt2.result c.in-len1.len_at_least c.in-len1.len_below c.word-item-then-words-lt2.is) word

pub returns-in_ok-items-in-len2 : goal.returns-in_ok-items-in-len2
returns-in_ok-items-in-len2 c =
    let named : c.as_str-then-words-lt3.result.now ≡ codes "selftest" =
    (bytes_eq-Decides c.as_str-then-words-lt3.result.now (codes "selftest")).0 (sym c.eq-then-words-lt3.ensures ∙ c.if-eq-3.true) in
    let first : string_bytes c.word-item-then-words-lt3.result ≡ codes "selftest" = cc (c.as_str-then-words-lt3.ensures.value, named) in
    let text : c.as_str-in-len2.result.now ≡ string_bytes c.count-item.result = cc c.as_str-in-len2.ensures.value in
    let count : IsCount c.as_str-in-len2.result.now c.in_ok-items-in-len2.items =
    counted c.as_str-in-len2.result.now c.count_in.result c.in_ok-items-in-len2.items c.in_ok-items-in-len2.was c.count_in.ensures in
    asks_by_count _ (string_bytes c.word-item-then-words-lt3.result) (string_bytes c.count-item.result) c.in_ok-items-in-len2.items
    (two_words string_bytes c.args.words.now c.word-item-then-words-lt3.result c.count-item.result c.in-len2.len_at_least c.in-len2.len_below
    c.word-item-then-words-lt3.is c.count-item.is) first (subst (λ (w : List ℕ). IsCount w c.in_ok-items-in-len2.items) text count)
