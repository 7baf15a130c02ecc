-- Stable sorts: of nothing, and of two sorted lists joined.
use Rattle.std.proofs.Common.{◌≡◌, List, [], ◌∷◌, ◌++◌, length, refl, sym, ◌∙◌, ap, ap₂, subst, arith}
use Rattle.std.specs.declared.cmp.Ordering.{Ordering}
use Rattle.std.specs.List.Sorted.{IsPermutation}
use Rattle.std.proofs.lemmas.List.Elements.{filter-append}
use Rattle.std.proofs.lemmas.List.Sorted.{IsPermutation-append, IsPermutation-refl, IsPermutation-sym, IsPermutation-trans, length_permutation}
use Rattle.gql_diag.specs.List.{IsStableSort}
use Rattle.gql_diag_messages.specs.declared.diagnostic_data.DiagnosticData.{DiagnosticData}

module _ {X : Type 0} where
  empty_from : (xs ys : List X) → length ys ≡ length xs → ys ≡ [] → xs ≡ []
  empty_from [] ys long none = refl
  empty_from (x ∷ xs) ys long none = absurd (let zero : length ys ≡ 0 = ap length none in omega (arith, long, zero))

  -- what has the elements of nothing is nothing
  pub nothing_before : (xs ys : List X) → IsPermutation xs ys → ys ≡ [] → xs ≡ []
  nothing_before xs ys moved none = empty_from xs ys (length_permutation xs ys moved) none

  pub nothing_after : (xs ys : List X) → IsPermutation xs ys → xs ≡ [] → ys ≡ []
  nothing_after xs ys moved none = nothing_before ys xs (IsPermutation-sym xs ys moved) none

module _ (order : DiagnosticData → DiagnosticData → Ordering) where
  pub sorted_nothing : IsStableSort order [] []
  sorted_nothing = record { permutation = IsPermutation-refl []; sorted = λ k d low high. absurd (omega arith); stable = λ x. refl }

  pub none_sorted : (items : List DiagnosticData) → items ≡ [] → IsStableSort order items []
  none_sorted items none = subst (λ (l : List DiagnosticData). IsStableSort order l []) (sym none) sorted_nothing

  -- a sort of two sorts joined is one of what they are of
  pub sorted_joined : (firsts others ys zs items : List DiagnosticData) → IsStableSort order firsts ys → IsStableSort order others zs
      → IsStableSort order (ys ++ zs) items → IsStableSort order (firsts ++ others) items
  sorted_joined firsts others ys zs items a b c = record {
    permutation = IsPermutation-trans (firsts ++ others) (ys ++ zs) items (IsPermutation-append firsts ys others zs a.permutation b.permutation) c.permutation;
    sorted = c.sorted;
    stable = λ x.
        c.stable x ∙ filter-append _ ys zs ∙ ap₂ (λ us vs. us ++ vs) (a.stable x) (b.stable x) ∙ sym (filter-append _ firsts others);
  }
