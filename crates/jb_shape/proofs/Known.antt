-- A test of every name, as far as a loop has come.
use Rattle.std.proofs.Common.{◌≡◌, ◌+◌, ℕ, zero, suc, List, [], ◌∷◌, slice_get, take, Some, Bool, true, false, ◌&&◌, refl, add-one}
use Rattle.std.specs.List.{list_all}

and_step : (a b c : Bool) → (a && b) ≡ true → (b ≡ true → c ≡ true) → (a && c) ≡ true
and_step true b c h next = next h
and_step false b c h next = cc

and_false : (a : Bool) → (a && false) ≡ false
and_false true = refl
and_false false = refl

module _ {X : Type 0} (p : X → Bool) where
  -- one that fails
  pub all_stops : (xs : List X) (i : ℕ) (x : X) → slice_get xs i ≡ Some x → p x ≡ false → list_all p xs ≡ false
  all_stops [] i x at fails = cc
  all_stops (y ∷ ys) zero x at fails = let e : y ≡ x = cc in rw (e, fails)
  all_stops (y ∷ ys) (suc i) x at fails = rw (all_stops ys i x at fails) (and_false (p y))

  all_step : (xs : List X) (i : ℕ) (x : X) → slice_get xs i ≡ Some x → list_all p (take i xs) ≡ true → p x ≡ true → list_all p (take (suc i) xs) ≡ true
  all_step [] i x at before passes = cc
  all_step (y ∷ ys) zero x at before passes = let e : y ≡ x = cc in rw (e, passes)
  all_step (y ∷ ys) (suc i) x at before passes =
      and_step (p y) (list_all p (take i ys)) (list_all p (take (suc i) ys)) before (λ h. all_step ys i x at h passes)

  -- one more that passes
  pub all_more : (xs : List X) (i : ℕ) (x : X) → slice_get xs i ≡ Some x → list_all p (take i xs) ≡ true → p x ≡ true → list_all p (take (i + 1) xs) ≡ true
  all_more xs i x at before passes = rw add-one (all_step xs i x at before passes)
