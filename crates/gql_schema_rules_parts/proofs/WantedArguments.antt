-- Arguments of which the first of a name counts.
use Rattle.std.proofs.Common.{◌≡◌, Bool, true, false, not, cond, ◌||◌, Some, List, [], ◌∷◌, is_some, refl}
use Rattle.std.specs.List.{find, list_any}

-- what is found passes the test
pub any_found : {A : Type 0} (test : A → Bool) (xs : List A) → list_any test xs ≡ is_some (find test xs)
any_found test [] = refl
any_found test (x ∷ xs) = by_test (any_found test xs) (test x)
  where
    by_test : list_any test xs ≡ is_some (find test xs) → (t : Bool) → (t || list_any test xs) ≡ is_some (cond t (Some x) (find test xs))
    by_test further true = refl
    by_test further false = further

pub not-true : (t : Bool) → not t ≡ true → t ≡ false
not-true true is = absurd cc
not-true false is = refl

pub not-false : (t : Bool) → not t ≡ false → t ≡ true
not-false true is = refl
not-false false is = absurd cc
