-- A walk on its way: what is found, and what is found in what is left, make the whole.
use Rattle.std.proofs.Common.{arith, ◌≡◌, ℕ, zero, suc, ◌+◌, ◌<◌, ◌≤◌, List, [], ◌∷◌, ◌++◌, map, refl, sym, ap, ◌∙◌, subst, append_assoc}
use Rattle.std.specs.Borrow.{Bor}
use Rattle.std.proofs.lemmas.List.{reverse-append, append-nil}
use Rattle.gql_ast_base.specs.Names.{Named}
use Rattle.gql_ast.specs.declared.operation.FragmentDefinition.{FragmentDefinition}
use Rattle.gql_ast.specs.declared.selection.Selection.{Selection}
use Rattle.gql_schema_types.specs.declared.schema.Schema.{Schema}
use Rattle.gql_document.specs.RootSelections.{own, total, total_inside, first_roots, root_selections}
use Rattle.gql_document.specs.bridge.RootWalk.{Walk, lists_of, selections_of, walk_of, inside, entered_behind, with_first}
use Rattle.gql_document.proofs.RootMeasure.{unentered, all_waiting, inside_less, first_less, weight}

abbrev all_of : List (List Selection) → List Selection
all_of [] = []
all_of (list ∷ lists) = list ++ all_of lists

abbrev total_left : List (List Selection) → ℕ
total_left [] = 0
total_left (list ∷ lists) = total list + total_left lists

pub record IsOnTheWay (schema : Schema) (fragments : List FragmentDefinition) (start : List Selection) (walk : Walk) : Type 0 where
  pub steps : ℕ
  pub enough : total_left walk.left + unentered fragments walk.entered ≤ steps
  pub whole : walk.roots ++ first_roots schema fragments steps walk.entered (all_of walk.left) ≡ root_selections schema fragments start

module _ (schema : Schema) (fragments : List FragmentDefinition) (start : List Selection) where
  -- one selection more
  one_more : (n : ℕ) (first : Selection) (others : List Selection) (walk : Walk)
      → own first + total others + total_left walk.left + unentered fragments walk.entered ≤ n
      → walk.roots ++ first_roots schema fragments n walk.entered (first ∷ (others ++ all_of walk.left)) ≡ root_selections schema fragments start
      → IsOnTheWay schema fragments start (with_first schema fragments (first ∷ others) walk)
  one_more zero first others walk enough whole = absurd (omega (arith, enough, inside_less schema fragments walk.entered first))
  one_more (suc n) first others walk enough whole =
      let less : 1 + total (inside schema fragments walk.entered first) + unentered fragments (entered_behind walk.entered first) ≤ own first + unentered fragments walk.entered =
      inside_less schema fragments walk.entered first in
      record {
        steps = n;
        enough = omega (arith, enough, less);
        whole = append_assoc walk.roots (first ∷ [])
            (first_roots schema fragments n (entered_behind walk.entered first) (inside schema fragments walk.entered first ++ (others ++ all_of walk.left))) ∙ whole;
      }

  first_met : (selections : List Selection) (walk : Walk) → IsOnTheWay schema fragments start (record walk { left = selections ∷ walk.left })
      → IsOnTheWay schema fragments start (with_first schema fragments selections walk)
  first_met [] walk way = record { steps = way.steps; enough = omega (arith, way.enough); whole = way.whole }
  first_met (first ∷ others) walk way =
      let sum_is : total_left ((first ∷ others) ∷ walk.left) ≡ own first + total others + total_left walk.left = refl in
      one_more way.steps first others walk (omega (arith, way.enough, sum_is)) way.whole

  pub way_begins : IsOnTheWay schema fragments start (record { entered = []; left = start ∷ []; roots = [] })
  way_begins = record {
    steps = total start + total_inside fragments;
    enough = omega (arith, all_waiting fragments);
    whole = ap (first_roots schema fragments (total start + total_inside fragments) []) (append-nil start);
  }

  pub begins : (entered : List Named) (fresh pending : List (Bor (List Selection))) (roots : List (Bor Selection)) (list : Bor (List Selection))
      → entered ≡ [] → fresh ≡ [] → pending ≡ fresh ++ list ∷ [] → roots ≡ [] → list.now ≡ start → IsOnTheWay schema fragments start (walk_of entered pending roots)
  begins entered fresh pending roots list none_entered empty is none_found now =
      let left : lists_of pending ≡ start ∷ [] = ap lists_of (is ∙ ap (λ f. f ++ list ∷ []) empty) ∙ ap (λ l. l ∷ []) now in
      let found : selections_of roots ≡ [] = ap selections_of none_found in
      let whole : walk_of entered pending roots ≡ record { entered = []; left = start ∷ []; roots = [] } = λ i. record { entered = none_entered i; left = left i; roots = found i } in
      subst (IsOnTheWay schema fragments start) (sym whole) way_begins

  taken_up : (entered : List Named) (pending popped : List (Bor (List Selection))) (roots : List (Bor Selection)) (list : Bor (List Selection))
      → pending ≡ popped ++ list ∷ [] → walk_of entered pending roots ≡ record (walk_of entered popped roots) { left = list.now ∷ lists_of popped }
  taken_up entered pending popped roots list is =
      let laid : lists_of (popped ++ list ∷ []) ≡ list.now ∷ lists_of popped = ap (map (λ (selections : Bor (List Selection)). selections.now)) (reverse-append popped (list ∷ [])) in
      ap (λ left. record { entered = entered; left = left; roots = selections_of roots }) (ap lists_of is ∙ laid)

  pub goes_on : (entered : List Named) (pending popped : List (Bor (List Selection))) (roots : List (Bor Selection)) (list : Bor (List Selection)) (new : Walk)
      → pending ≡ popped ++ list ∷ [] → new ≡ with_first schema fragments list.now (walk_of entered popped roots)
      → IsOnTheWay schema fragments start (walk_of entered pending roots) → IsOnTheWay schema fragments start new
  goes_on entered pending popped roots list new is made way =
      subst (IsOnTheWay schema fragments start) (sym made)
      (first_met list.now (walk_of entered popped roots) (subst (IsOnTheWay schema fragments start) (taken_up entered pending popped roots list is) way))

  pub weighs_less : (entered : List Named) (pending popped : List (Bor (List Selection))) (roots : List (Bor Selection)) (list : Bor (List Selection)) (new : Walk)
      → pending ≡ popped ++ list ∷ [] → new ≡ with_first schema fragments list.now (walk_of entered popped roots)
      → weight fragments new < weight fragments (walk_of entered pending roots)
  weighs_less entered pending popped roots list new is made =
      subst (λ w. weight fragments new < weight fragments w) (sym (taken_up entered pending popped roots list is))
      (subst (λ w. weight fragments w < weight fragments (record (walk_of entered popped roots) { left = list.now ∷ lists_of popped })) (sym made)
      (first_less schema fragments list.now (walk_of entered popped roots)))
