-- A walk comes to an end: what is left of it, with all that can still be entered, becomes less.
use Rattle.std.proofs.Common.{rules, arith, ◌≡◌, ℕ, ◌+◌, ◌*◌, ◌<◌, ◌≤◌, Bool, true, false, cond, List, [], ◌∷◌, ◌++◌, map, Option, Some, None, is_some, refl, sym, ap, ◌∙◌, subst}
use Rattle.std.specs.List.{find}
use Rattle.std.specs.Option.{option_map_or}
use Rattle.std.specs.Str.{bytes_eq}
use Rattle.std.proofs.lemmas.Slice.Eq.{bytes_eq-Decides}
use Rattle.gql_ast_base.specs.Names.{Named}
use Rattle.gql_schema_types.specs.Entries.{entry}
use Rattle.gql_document_types.specs.RootFields.{fragment_name, is_entered, itself}
use Rattle.gql_document_types.specs.bridge.RootWalk.{Walk, noted, with_list, with_body, with_spread, met, with_selection, with_first}
use Rattle.gql_document_types.specs.declared.fragment.Fragment.{Fragment}
use Rattle.gql_document_types.specs.declared.selection.Field.{Field}
use Rattle.gql_document_types.specs.declared.selection.FragmentSpread.{FragmentSpread}
use Rattle.gql_document_types.specs.declared.selection.InlineFragment.{InlineFragment}
use Rattle.gql_document_types.specs.declared.selection.Selection.{Selection, the_lemmas, fold-Selection}
use Rattle.gql_document_types.specs.declared.selection.Selection.TheVariants as selection
use Rattle.gql_document_types.specs.declared.selection.Selection.TheOpen.{Selection-F, Field-F, InlineFragment-F, SelectionSet-F}
use Rattle.gql_document_types.proofs.Variants.{out-field, out-spread, out-inline, each}

-- how many selections a walk meets at one
abbrev own_selection : Selection-F ℕ ℕ ℕ ℕ → ℕ
own_selection (Selection-F.Field n) = 1
own_selection (Selection-F.FragmentSpread s) = 1
own_selection (Selection-F.InlineFragment n) = n

abbrev own_field : Field-F ℕ ℕ ℕ ℕ → ℕ
own_field field = 1

abbrev own_inline : InlineFragment-F ℕ ℕ ℕ ℕ → ℕ
own_inline fragment = 1 + fragment.selection_set

abbrev added : List ℕ → ℕ
added [] = 0
added (n ∷ ns) = n + added ns

abbrev own_set : SelectionSet-F ℕ ℕ ℕ ℕ → ℕ
own_set set = added set.selections

abbrev own : Selection → ℕ
own = fold-Selection ℕ ℕ ℕ ℕ own_selection own_field own_inline own_set

abbrev total : List Selection → ℕ
total selections = added (map own selections)

own-field : (f : Field) → own (selection.Field f) ≡ 1
own-field f = search (rules, the_lemmas)

own-spread : (s : FragmentSpread) → own (selection.FragmentSpread s) ≡ 1
own-spread s = search (rules, the_lemmas)

own-inline : (i : InlineFragment) → own (selection.InlineFragment i) ≡ 1 + total i.selection_set.selections
own-inline i = search (rules, the_lemmas)

-- what can still be entered
abbrev waiting : Bool → Fragment → ℕ
waiting entered fragment = cond entered 0 (total fragment.selection_set.selections)

abbrev unentered : List Fragment → List Named → ℕ
unentered [] entered = 0
unentered (fragment ∷ fragments) entered = waiting (is_entered fragment.name entered) fragment + unentered fragments entered

-- what is left, a list counting for itself too
abbrev room : List (List Selection) → ℕ
room [] = 0
room (list ∷ lists) = 1 + (2 * total list + room lists)

abbrev pub weight : List Fragment → Walk → ℕ
weight fragments walk = room walk.left + 2 * unentered fragments walk.entered

-- ---- entering

pub still_found : (p : Named → Bool) (xs : List Named) (y : Named) → is_some (find p xs) ≡ true → is_some (find p (xs ++ y ∷ [])) ≡ true
still_found p [] y some = absurd (let f : false ≡ true = some in cc)
still_found p (x ∷ xs) y some = by_test (p x) some (still_found p xs y)
  where
    by_test : (b : Bool) → is_some (cond b (Some x) (find p xs)) ≡ true → (is_some (find p xs) ≡ true → is_some (find p (xs ++ y ∷ [])) ≡ true)
        → is_some (cond b (Some x) (find p (xs ++ y ∷ []))) ≡ true
    by_test true some later = refl
    by_test false some later = later some

pub now_found : (p : Named → Bool) (xs : List Named) (y : Named) → p y ≡ true → is_some (find p (xs ++ y ∷ [])) ≡ true
now_found p [] y is = ap (λ b. is_some (cond b (Some y) None)) is
now_found p (x ∷ xs) y is = by_test (p x) (now_found p xs y is)
  where
    by_test : (b : Bool) → is_some (find p (xs ++ y ∷ [])) ≡ true → is_some (cond b (Some x) (find p (xs ++ y ∷ []))) ≡ true
    by_test true rest = refl
    by_test false rest = rest

waiting_less : (fragment : Fragment) (before after : Bool) → (before ≡ true → after ≡ true) → waiting after fragment ≤ waiting before fragment
waiting_less fragment true after kept = omega (arith, ap (λ b. waiting b fragment) (kept refl))
waiting_less fragment false true kept = omega arith
waiting_less fragment false false kept = omega arith

unentered_less : (fragments : List Fragment) (entered : List Named) (name : Named) → unentered fragments (noted entered name) ≤ unentered fragments entered
unentered_less [] entered name = omega arith
unentered_less (fragment ∷ fragments) entered name =
    omega (
      arith,
      unentered_less fragments entered name,
      waiting_less fragment (is_entered fragment.name entered) (is_entered fragment.name (noted entered name)) (still_found (λ n. bytes_eq fragment.name.text n.text) entered name),
    )

abbrev inside : Option Fragment → ℕ
inside found = option_map_or (λ (fragment : Fragment). total fragment.selection_set.selections) found 0

-- a fragment that is entered waits no more
entered_less : (fragments : List Fragment) (entered : List Named) (name : Named) → is_entered name entered ≡ false
    → inside (entry fragment_name name.text fragments) + unentered fragments (noted entered name) ≤ unentered fragments entered
entered_less [] entered name new = omega arith
entered_less (fragment ∷ fragments) entered name new = by_test (bytes_eq name.text fragment.name.text) refl (entered_less fragments entered name new)
  where
    by_test : (b : Bool) → bytes_eq name.text fragment.name.text ≡ b
        → inside (entry fragment_name name.text fragments) + unentered fragments (noted entered name) ≤ unentered fragments entered
        → inside (cond b (Some fragment) (entry fragment_name name.text fragments)) + unentered (fragment ∷ fragments) (noted entered name) ≤ unentered (fragment ∷ fragments) entered
    by_test true is later =
        let same : name.text ≡ fragment.name.text = (bytes_eq-Decides name.text fragment.name.text).0 is in
        let itself_is : bytes_eq fragment.name.text name.text ≡ true = subst (λ t. bytes_eq t name.text ≡ true) same (subst (λ t. bytes_eq name.text t ≡ true) (sym same) is) in
        let not_before : is_entered fragment.name entered ≡ false = ap (λ t. is_some (entry itself t entered)) (sym same) ∙ new in
        let after : is_entered fragment.name (noted entered name) ≡ true = now_found (λ n. bytes_eq fragment.name.text n.text) entered name itself_is in
        omega (arith, unentered_less fragments entered name, ap (λ b. waiting b fragment) not_before, ap (λ b. waiting b fragment) after)
    by_test false is later =
        omega (
          arith,
          later,
          waiting_less fragment (is_entered fragment.name entered) (is_entered fragment.name (noted entered name)) (still_found (λ n. bytes_eq fragment.name.text n.text) entered name),
        )

body_room : (left : List (List Selection)) (found : Option Fragment) → room (option_map_or (λ (fragment : Fragment). fragment.selection_set.selections ∷ left) found left) ≤ 1 + (2 * inside found + room left)
body_room left (Some fragment) = omega arith
body_room left None = omega arith

spread_less : (fragments : List Fragment) (spread : FragmentSpread) (walk : Walk) → weight fragments (with_spread fragments spread walk) < weight fragments walk + 2
spread_less fragments spread walk = by_test (is_entered spread.fragment_name walk.entered) refl
  where
    by_test : (b : Bool) → is_entered spread.fragment_name walk.entered ≡ b
        → weight fragments (cond b walk (record walk { entered = noted walk.entered spread.fragment_name; left = with_body fragments spread.fragment_name.text walk.left })) < weight fragments walk + 2
    by_test true is = omega arith
    by_test false is =
        omega (arith, body_room walk.left (entry fragment_name spread.fragment_name.text fragments), entered_less fragments walk.entered spread.fragment_name is)

selection_less : (fragments : List Fragment) (walk : Walk) (s : Selection) → weight fragments (with_selection fragments s walk) < weight fragments walk + 2 * own s
selection_less fragments walk =
    each (λ s. weight fragments (with_selection fragments s walk) < weight fragments walk + 2 * own s)
    (λ f. omega (arith, ap (λ k. weight fragments (met fragments k walk)) (out-field f), own-field f))
    (λ s. omega (arith, ap (λ k. weight fragments (met fragments k walk)) (out-spread s), own-spread s, spread_less fragments s walk))
    (λ i. omega (arith, ap (λ k. weight fragments (met fragments k walk)) (out-inline i), own-inline i))

-- a list that is taken up weighs less
pub first_less : (fragments : List Fragment) (selections : List Selection) (walk : Walk)
    → weight fragments (with_first fragments selections walk) < weight fragments (with_list selections walk)
first_less fragments [] walk = omega arith
first_less fragments (first ∷ others) walk =
    let less : weight fragments (with_first fragments (first ∷ others) walk) < 1 + (2 * total others + room walk.left) + 2 * unentered fragments walk.entered + 2 * own first =
    selection_less fragments (with_list others walk) first in
    let whole : 1 + (2 * (own first + total others) + room walk.left) + 2 * unentered fragments walk.entered ≡ weight fragments (with_list (first ∷ others) walk) = refl in
    subst (λ n. weight fragments (with_first fragments (first ∷ others) walk) < n) whole (omega (arith, less))
