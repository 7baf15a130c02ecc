-- A walk on its way: with the root fields of what is left it has those of the whole.
use Rattle.std.proofs.Common.{◌≡◌, ◌<◌, Bool, true, false, cond, List, [], ◌∷◌, ◌++◌, map, Option, Some, None, refl, sym, ap, ◌∙◌, subst, append_assoc}
use Rattle.std.specs.Borrow.{Bor}
use Rattle.std.specs.Option.{option_map_or}
use Rattle.std.proofs.lemmas.List.{reverse-append, append-nil}
use Rattle.gql_ast_base.specs.Names.{Named}
use Rattle.gql_schema_types.specs.Entries.{entry}
use Rattle.gql_document_types.specs.RootFields.{AreRootFields, none_left, a_field, an_inline_fragment, a_first_spread, a_further_spread, fragment_name, is_entered, fields_of}
use Rattle.gql_document_types.specs.bridge.RootWalk.{Walk, lists_of, walk_of, noted, with_list, with_body, with_spread, met, with_selection, with_first}
use Rattle.gql_document_types.specs.declared.fragment.Fragment.{Fragment}
use Rattle.gql_document_types.specs.declared.selection.Field.{Field}
use Rattle.gql_document_types.specs.declared.selection.FragmentSpread.{FragmentSpread}
use Rattle.gql_document_types.specs.declared.selection.Selection.{Selection}
use Rattle.gql_document_types.specs.declared.selection.Selection.TheVariants as selection
use Rattle.gql_document_types.proofs.Measure.{weight, first_less}
use Rattle.gql_document_types.proofs.Variants.{out-field, out-spread, out-inline, each}

abbrev all_of : List (List Selection) → List Selection
all_of [] = []
all_of (list ∷ lists) = list ++ all_of lists

abbrev pub IsOnTheWay : List Fragment → List Selection → Walk → Type 0
IsOnTheWay fragments start walk =
    (rest : List Field) → AreRootFields fragments walk.entered (all_of walk.left) rest → AreRootFields fragments [] start (walk.fields ++ rest)

-- the same of a walk that has one more selection in front
abbrev IsBefore : List Fragment → List Selection → Selection → Walk → Type 0
IsBefore fragments start s walk =
    (rest : List Field) → AreRootFields fragments walk.entered (s ∷ all_of walk.left) rest → AreRootFields fragments [] start (walk.fields ++ rest)

module _ (fragments : List Fragment) (start : List Selection) where
  spread_met : (s : FragmentSpread) (walk : Walk) → IsBefore fragments start (selection.FragmentSpread s) walk → IsOnTheWay fragments start (with_spread fragments s walk)
  spread_met s walk before = by_test (is_entered s.fragment_name walk.entered) refl
    where
      inside : is_entered s.fragment_name walk.entered ≡ false → (found : Option Fragment) → entry fragment_name s.fragment_name.text fragments ≡ found
          → IsOnTheWay fragments start (record walk { entered = noted walk.entered s.fragment_name; left = option_map_or (λ (fragment : Fragment). fragment.selection_set.selections ∷ walk.left) found walk.left })
      inside new (Some fragment) is = λ rest roots. before rest (a_first_spread s new
          (subst (λ o. AreRootFields fragments (noted walk.entered s.fragment_name) (option_map_or (λ (fragment : Fragment). fragment.selection_set.selections) o [] ++ all_of walk.left) rest) (sym is) roots))
      inside new None is = λ rest roots. before rest (a_first_spread s new
          (subst (λ o. AreRootFields fragments (noted walk.entered s.fragment_name) (option_map_or (λ (fragment : Fragment). fragment.selection_set.selections) o [] ++ all_of walk.left) rest) (sym is) roots))

      by_test : (b : Bool) → is_entered s.fragment_name walk.entered ≡ b
          → IsOnTheWay fragments start (cond b walk (record walk { entered = noted walk.entered s.fragment_name; left = with_body fragments s.fragment_name.text walk.left }))
      by_test true is = λ rest roots. before rest (a_further_spread s is roots)
      by_test false is = inside is (entry fragment_name s.fragment_name.text fragments) refl

  selection_met : (s : Selection) (walk : Walk) → IsBefore fragments start s walk → IsOnTheWay fragments start (with_selection fragments s walk)
  selection_met =
      each (λ s. (walk : Walk) → IsBefore fragments start s walk → IsOnTheWay fragments start (with_selection fragments s walk))
      (λ f walk before. subst (λ k. IsOnTheWay fragments start (met fragments k walk)) (sym (out-field f))
      (λ rest roots. subst (AreRootFields fragments [] start) (sym (append_assoc walk.fields (f ∷ []) rest)) (before (f ∷ rest) (a_field f roots))))
      (λ s walk before. subst (λ k. IsOnTheWay fragments start (met fragments k walk)) (sym (out-spread s)) (spread_met s walk before))
      (λ i walk before. subst (λ k. IsOnTheWay fragments start (met fragments k walk)) (sym (out-inline i))
      (λ rest roots. before rest (an_inline_fragment i roots)))

  pub first_met : (selections : List Selection) (walk : Walk) → IsOnTheWay fragments start (with_list selections walk) → IsOnTheWay fragments start (with_first fragments selections walk)
  first_met [] walk way = way
  first_met (first ∷ others) walk way = selection_met first (with_list others walk) way

  pub way_ends : (entered : List Named) (fields : List Field) → IsOnTheWay fragments start (record { entered = entered; left = []; fields = fields }) → AreRootFields fragments [] start fields
  way_ends entered fields way = subst (AreRootFields fragments [] start) (append-nil fields) (way [] none_left)

-- ---- lists that are laid aside

pub laid_aside : (pending : List (Bor (List Selection))) (list : Bor (List Selection)) → lists_of (pending ++ list ∷ []) ≡ list.now ∷ lists_of pending
laid_aside pending list = ap (map (λ (selections : Bor (List Selection)). selections.now)) (reverse-append pending (list ∷ []))

-- one list more is taken up
pub taken_up : (fragments : List Fragment) (entered : List Named) (pending popped : List (Bor (List Selection))) (fields : List (Bor Field)) (list : Bor (List Selection))
    → pending ≡ popped ++ list ∷ [] → walk_of entered pending fields ≡ with_list list.now (walk_of entered popped fields)
taken_up fragments entered pending popped fields list is =
    ap (λ left. record { entered = entered; left = left; fields = fields_of fields }) (ap lists_of is ∙ laid_aside popped list)

pub goes_on : (fragments : List Fragment) (start : List Selection) (entered : List Named) (pending popped : List (Bor (List Selection))) (fields : List (Bor Field)) (list : Bor (List Selection)) (new : Walk)
    → pending ≡ popped ++ list ∷ [] → new ≡ with_first fragments list.now (walk_of entered popped fields)
    → IsOnTheWay fragments start (walk_of entered pending fields) → IsOnTheWay fragments start new
goes_on fragments start entered pending popped fields list new is made way =
    subst (IsOnTheWay fragments start) (sym made)
    (first_met fragments start list.now (walk_of entered popped fields) (subst (IsOnTheWay fragments start) (taken_up fragments entered pending popped fields list is) way))

pub weighs_less : (fragments : List Fragment) (entered : List Named) (pending popped : List (Bor (List Selection))) (fields : List (Bor Field)) (list : Bor (List Selection)) (new : Walk)
    → pending ≡ popped ++ list ∷ [] → new ≡ with_first fragments list.now (walk_of entered popped fields)
    → weight fragments new < weight fragments (walk_of entered pending fields)
weighs_less fragments entered pending popped fields list new is made =
    subst (λ w. weight fragments new < weight fragments w) (sym (taken_up fragments entered pending popped fields list is))
    (subst (λ w. weight fragments w < weight fragments (with_list list.now (walk_of entered popped fields))) (sym made) (first_less fragments list.now (walk_of entered popped fields)))
