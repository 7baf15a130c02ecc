-- Lists of faults that are empty.
use Rattle.std.proofs.Common.{◌≡◌, ℕ, Bool, true, false, not, cond, Some, List, [], ◌∷◌, flat_map, zero, suc, refl, subst, arith, All}
use Rattle.gql_ast_base.specs.Names.{Named}
use Rattle.gql_diag_messages.specs.declared.diagnostic_data.DiagnosticData.{DiagnosticData}
use Rattle.gql_rules_values.specs.Faults.{only_if}
use Rattle.gql_schema_types.specs.Entries.{is_called, entry}
use Rattle.gql_parser.proofs.Kept.{back_empty, front_empty}

pub not_told : (b : Bool) (told : DiagnosticData) → only_if b told ≡ [] → b ≡ false
not_told true told none = absurd cc
not_told false told none = refl

pub not_false : (b : Bool) → not b ≡ false → b ≡ true
not_false true none = refl
not_false false none = absurd cc

pub each_empty : {X Y : Type 0} (f : X → List Y) (xs : List X) → flat_map f xs ≡ [] → All (λ x. f x ≡ []) xs
each_empty f [] none k d lt = absurd (omega (arith, lt))
each_empty f (x ∷ xs) none zero d lt = front_empty (f x) (flat_map f xs) none
each_empty f (x ∷ xs) none (suc k) d lt = each_empty f xs (back_empty (f x) (flat_map f xs) none) k d (omega (arith, lt))

module _ {X : Type 0} (own : X → Named) (name : List ℕ) (P : X → Type 0) where
  -- what holds of each holds of the one of a name
  pub of_entry : (xs : List X) (x : X) → All P xs → entry own name xs ≡ Some x → P x
  of_entry [] x all found = absurd cc
  of_entry (y ∷ ys) x all found = by_test (is_called own name y) found (of_entry ys x (λ k d lt. all (suc k) d (omega (arith, lt))))
    where
      by_test : (b : Bool) → cond b (Some y) (entry own name ys) ≡ Some x → (entry own name ys ≡ Some x → P x) → P x
      by_test true found later = let same : y ≡ x = cc in subst P same (all 0 y (omega arith))
      by_test false found later = later found
