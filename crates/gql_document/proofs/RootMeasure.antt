-- A walk comes to an end: what is left of it, with all that can still be entered, becomes less.
use Rattle.std.proofs.Common.{rules, arith, ◌≡◌, ℕ, ◌+◌, ◌*◌, ◌<◌, ◌≤◌, Bool, true, false, cond, if◌then◌else◌, List, [], ◌∷◌, ◌++◌, Option, Some, None, is_some, refl, sym, ap, ◌∙◌, subst}
use Rattle.std.specs.Option.{option_map_or}
use Rattle.std.specs.Str.{bytes_eq}
use Rattle.std.proofs.lemmas.Slice.Eq.{bytes_eq-Decides}
use Rattle.gql_ast_base.specs.Names.{Named}
use Rattle.gql_ast.specs.declared.operation.FragmentDefinition.{FragmentDefinition}
use Rattle.gql_ast.specs.declared.selection.Field.{Field}
use Rattle.gql_ast.specs.declared.selection.FragmentSpread.{FragmentSpread}
use Rattle.gql_ast.specs.declared.selection.InlineFragment.{InlineFragment}
use Rattle.gql_ast.specs.declared.selection.Selection.{Selection, the_lemmas}
use Rattle.gql_ast.specs.declared.selection.Selection.TheVariants as selection
use Rattle.gql_schema_types.specs.Entries.{entry}
use Rattle.gql_schema_types.specs.declared.schema.Schema.{Schema}
use Rattle.gql_document_types.proofs.Measure.{still_found, now_found}
use Rattle.gql_document.specs.FragmentNameCollision.{fragment_name}
use Rattle.gql_document.specs.Nodes.{is_defined, is_open}
use Rattle.gql_document.specs.OperationNameCollision.{itself}
use Rattle.gql_document.specs.bridge.OperationNameCollision.{added}
use Rattle.gql_document.specs.RootSelections.{own, total, total_inside, is_entered, body, body_of, inside_step, entered_step}
use Rattle.gql_document.specs.bridge.RootWalk.{Walk, inside, entered_behind, with_first}
use Rattle.gql_ast.proofs.Variants.{out-field, out-spread, out-inline, each}

own-field : (f : Field) → own (selection.Field f) ≡ 1
own-field f = search (rules, the_lemmas)

own-spread : (s : FragmentSpread) → own (selection.FragmentSpread s) ≡ 1
own-spread s = search (rules, the_lemmas)

own-inline : (i : InlineFragment) → own (selection.InlineFragment i) ≡ 1 + total i.selection_set
own-inline i = search (rules, the_lemmas)

-- what can still be entered
abbrev waiting : Bool → FragmentDefinition → ℕ
waiting entered fragment = cond entered 0 (total fragment.selection_set)

abbrev pub unentered : List FragmentDefinition → List Named → ℕ
unentered [] entered = 0
unentered (fragment ∷ fragments) entered = waiting (is_entered entered fragment.name) fragment + unentered fragments entered

pub all_waiting : (fragments : List FragmentDefinition) → unentered fragments [] ≡ total_inside fragments
all_waiting [] = refl
all_waiting (fragment ∷ fragments) = ap (λ n. total fragment.selection_set + n) (all_waiting fragments)

-- what is left, a list counting for itself too
abbrev room : List (List Selection) → ℕ
room [] = 0
room (list ∷ lists) = 1 + (2 * total list + room lists)

abbrev pub weight : List FragmentDefinition → Walk → ℕ
weight fragments walk = room walk.left + 2 * unentered fragments walk.entered

-- ---- entering

waiting_less : (fragment : FragmentDefinition) (before after : Bool) → (before ≡ true → after ≡ true) → waiting after fragment ≤ waiting before fragment
waiting_less fragment true after kept = omega (arith, ap (λ b. waiting b fragment) (kept refl))
waiting_less fragment false true kept = omega arith
waiting_less fragment false false kept = omega arith

unentered_less : (fragments : List FragmentDefinition) (entered : List Named) (name : Named) → unentered fragments (added entered name) ≤ unentered fragments entered
unentered_less [] entered name = omega arith
unentered_less (fragment ∷ fragments) entered name =
    omega (
      arith,
      unentered_less fragments entered name,
      waiting_less fragment (is_entered entered fragment.name) (is_entered (added entered name) fragment.name) (still_found (λ n. bytes_eq fragment.name.text n.text) entered name),
    )

abbrev found_inside : Option FragmentDefinition → ℕ
found_inside found = option_map_or (λ (fragment : FragmentDefinition). total fragment.selection_set) found 0

-- a fragment that is entered waits no more
entered_less : (fragments : List FragmentDefinition) (entered : List Named) (name : Named) → is_entered entered name ≡ false
    → found_inside (entry fragment_name name.text fragments) + unentered fragments (added entered name) ≤ unentered fragments entered
entered_less [] entered name new = omega arith
entered_less (fragment ∷ fragments) entered name new = by_test (bytes_eq name.text fragment.name.text) refl (entered_less fragments entered name new)
  where
    by_test : (b : Bool) → bytes_eq name.text fragment.name.text ≡ b
        → found_inside (entry fragment_name name.text fragments) + unentered fragments (added entered name) ≤ unentered fragments entered
        → found_inside (cond b (Some fragment) (entry fragment_name name.text fragments)) + unentered (fragment ∷ fragments) (added entered name) ≤ unentered (fragment ∷ fragments) entered
    by_test true is later =
        let same : name.text ≡ fragment.name.text = (bytes_eq-Decides name.text fragment.name.text).0 is in
        let itself_is : bytes_eq fragment.name.text name.text ≡ true = subst (λ t. bytes_eq t name.text ≡ true) same (subst (λ t. bytes_eq name.text t ≡ true) (sym same) is) in
        let not_before : is_entered entered fragment.name ≡ false = ap (λ t. is_some (entry itself t entered)) (sym same) ∙ new in
        let after : is_entered (added entered name) fragment.name ≡ true = now_found (λ n. bytes_eq fragment.name.text n.text) entered name itself_is in
        omega (arith, unentered_less fragments entered name, ap (λ b. waiting b fragment) not_before, ap (λ b. waiting b fragment) after)
    by_test false is later =
        omega (
          arith,
          later,
          waiting_less fragment (is_entered entered fragment.name) (is_entered (added entered name) fragment.name) (still_found (λ n. bytes_eq fragment.name.text n.text) entered name),
        )

module _ (schema : Schema) (fragments : List FragmentDefinition) where
  body_of_less : (b : Bool) (fragment : FragmentDefinition) → total (if b then fragment.selection_set else []) ≤ total fragment.selection_set
  body_of_less true fragment = omega arith
  body_of_less false fragment = omega arith

  body_less : (found : Option FragmentDefinition) → total (option_map_or (body_of schema fragments) found []) ≤ found_inside found
  body_less None = omega arith
  body_less (Some fragment) = body_of_less (is_defined schema fragment.type_condition) fragment

  spread_less : (entered : List Named) (s : FragmentSpread) (b : Bool) → is_entered entered s.fragment_name ≡ b
      → 1 + total (if b then [] else body schema fragments s.fragment_name) + unentered fragments (if b then entered else entered ++ s.fragment_name ∷ []) ≤ 1 + unentered fragments entered
  spread_less entered s true is = omega arith
  spread_less entered s false is =
      let inside : total (body schema fragments s.fragment_name) ≤ found_inside (entry fragment_name s.fragment_name.text fragments) = body_less (entry fragment_name s.fragment_name.text fragments) in
      omega (arith, inside, entered_less fragments entered s.fragment_name is)

  inline_less : (b : Bool) (i : InlineFragment) → 1 + total (if b then i.selection_set else []) ≤ 1 + total i.selection_set
  inline_less true i = omega arith
  inline_less false i = omega arith

  -- what is inside is less than the selection
  pub inside_less : (entered : List Named) (s : Selection)
      → 1 + total (inside schema fragments entered s) + unentered fragments (entered_behind entered s) ≤ own s + unentered fragments entered
  inside_less entered =
      each (λ s. 1 + total (inside schema fragments entered s) + unentered fragments (entered_behind entered s) ≤ own s + unentered fragments entered)
      (λ f. omega (arith, own-field f, ap (λ k. total (inside_step schema fragments entered k)) (out-field f), ap (λ k. unentered fragments (entered_step entered k)) (out-field f)))
      (λ s. omega (
        arith,
        own-spread s,
        ap (λ k. total (inside_step schema fragments entered k)) (out-spread s),
        ap (λ k. unentered fragments (entered_step entered k)) (out-spread s),
        spread_less entered s (is_entered entered s.fragment_name) refl,
      ))
      (λ i. omega (
        arith,
        own-inline i,
        ap (λ k. total (inside_step schema fragments entered k)) (out-inline i),
        ap (λ k. unentered fragments (entered_step entered k)) (out-inline i),
        inline_less (is_open schema i.type_condition) i,
      ))

  -- a list that is taken up weighs less
  pub first_less : (selections : List Selection) (walk : Walk)
      → weight fragments (with_first schema fragments selections walk) < weight fragments (record walk { left = selections ∷ walk.left })
  first_less [] walk = omega arith
  first_less (first ∷ others) walk =
      let less : 1 + total (inside schema fragments walk.entered first) + unentered fragments (entered_behind walk.entered first) ≤ own first + unentered fragments walk.entered = inside_less walk.entered first in
      let new : weight fragments (with_first schema fragments (first ∷ others) walk)
      ≡ 1 + (2 * total (inside schema fragments walk.entered first) + (1 + (2 * total others + room walk.left))) + 2 * unentered fragments (entered_behind walk.entered first) = refl in
      let old : weight fragments (record walk { left = (first ∷ others) ∷ walk.left }) ≡ 1 + (2 * (own first + total others) + room walk.left) + 2 * unentered fragments walk.entered = refl in
      subst (λ n. n < weight fragments (record walk { left = (first ∷ others) ∷ walk.left })) (sym new)
      (subst (λ n. 1 + (2 * total (inside schema fragments walk.entered first) + (1 + (2 * total others + room walk.left))) + 2 * unentered fragments (entered_behind walk.entered first) < n) (sym old)
      (omega (arith, less)))
