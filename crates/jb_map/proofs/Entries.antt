-- One pair of a list of pairs, written and read by its place.
use Rattle.std.proofs.Common.{◌≡◌, ℕ, zero, suc, ◌<◌, List, [], ◌∷◌, ◌++◌, length, get_or, slice_get, Some, None, Option, refl, sym, ap, ◌∙◌, subst, position, take, drop, is_some, Bool, true, false, cond, arith, ◌+◌}
use Rattle.std.specs.Option.{option_map}
use Rattle.std.specs.Str.{bytes_eq}
use Rattle.std.specs.List.{IsDistinct}
use Rattle.std.specs.Map.{keys_of, values_of, lookup, lookup_entry}
use Rattle.std.specs.Cmp.Lexicographic.{nat_list_eq_equiv}
use Rattle.std.proofs.lemmas.List.{take_more}
use Rattle.std_collections.proofs.HashLookup.{IsFirst, IsAbsent}
use Rattle.indexmap.proofs.MapLemmas.{absent_before, some_index}

none_by_test : {X : Type 0} (r : Option X) → is_some r ≡ false → r ≡ None
none_by_test None h = refl
none_by_test (Some x) h = cc

pub within_by_get : {X : Type 0} (xs : List X) (i : ℕ) (x : X) → slice_get xs i ≡ Some x → i < length xs
within_by_get [] i x h = cc
within_by_get (y ∷ ys) zero x h = omega arith
within_by_get (y ∷ ys) (suc i) x h = let below : i < length ys = within_by_get ys i x h in omega arith

module _ {V : Type 0} where
  split_at : (es : List (List ℕ × V)) (i : ℕ) (e : List ℕ × V) → i < length es → e ≡ get_or es i e → es ≡ take i es ++ e ∷ drop (suc i) es
  split_at [] i e within h = absurd (omega arith)
  split_at (x ∷ xs) zero e within h = ap (λ (p : List ℕ × V). p ∷ xs) (sym h)
  split_at (x ∷ xs) (suc i) e within h = ap (λ l. x ∷ l) (split_at xs i e (omega arith) h)

  -- the key at a place is none of those before it
  pub new_at_place : (es : List (List ℕ × V)) (i : ℕ) (e : List ℕ × V) → i < length es → e ≡ get_or es i e → IsDistinct bytes_eq (keys_of es)
      → position (bytes_eq e.0) (keys_of (take i es)) ≡ None
  new_at_place es i e within h distinct =
      let apart = subst (λ l. IsDistinct bytes_eq (keys_of l)) (split_at es i e within h) distinct in
      let missing = absent_before nat_list_eq_equiv (take i es) (drop (suc i) es) e apart in
      none_by_test _ (some_index (bytes_eq e.0) (take i es) ∙ ap is_some missing)

  -- a pair by its key and its value at a place
  pub pair_at : (es : List (List ℕ × V)) (i : ℕ) (k : List ℕ) (v : V) → slice_get (keys_of es) i ≡ Some k → slice_get (values_of es) i ≡ Some v → (k, v) ≡ get_or es i (k, v)
  pair_at [] i k v a b = refl
  pair_at (e ∷ es) zero k v a b = let key : k ≡ e.0 = cc in let value : v ≡ e.1 = cc in λ j. (key j, value j)
  pair_at (e ∷ es) (suc i) k v a b = pair_at es i k v a b

  -- the pairs before a place, with the pair at it
  pub take_pair : (es : List (List ℕ × V)) (i : ℕ) (e : List ℕ × V) → i < length es → e ≡ get_or es i e → take i es ++ e ∷ [] ≡ take (i + 1) es
  take_pair es i e within h = ap (λ (p : List ℕ × V). take i es ++ p ∷ []) h ∙ sym (take_more es i e within)

  -- the same, as a look by place
  pub pair_get : (es : List (List ℕ × V)) (i : ℕ) (k : List ℕ) (v : V) → slice_get (keys_of es) i ≡ Some k → slice_get (values_of es) i ≡ Some v → slice_get es i ≡ Some (k, v)
  pair_get [] i k v a b = cc
  pair_get (e ∷ es) zero k v a b = let key : e.0 ≡ k = cc in let value : e.1 ≡ v = cc in λ j. Some (key j, value j)
  pair_get (e ∷ es) (suc i) k v a b = pair_get es i k v a b

  -- the first pair whose key passes, by its place
  pub first_pair : (t : List ℕ → Bool) (es : List (List ℕ × V)) (i : ℕ) → IsFirst t es i → lookup_entry t es ≡ slice_get es i
  first_pair t [] i h = absurd h
  first_pair t (e ∷ es) zero h = ap (λ b. cond b (Some e) (lookup_entry t es)) h
  first_pair t (e ∷ es) (suc i) h = ap (λ b. cond b (Some e) (lookup_entry t es)) h.0 ∙ first_pair t es i h.1

  pub no_pair : (t : List ℕ → Bool) (es : List (List ℕ × V)) → IsAbsent t es → lookup_entry t es ≡ None
  no_pair t [] h = refl
  no_pair t (e ∷ es) h = ap (λ b. cond b (Some e) (lookup_entry t es)) h.0 ∙ no_pair t es h.1

  value_of_choice : (b : Bool) (e : List ℕ × V) (r : Option (List ℕ × V)) → cond b (Some e.1) (option_map (λ (p : List ℕ × V). p.1) r) ≡ option_map (λ (p : List ℕ × V). p.1) (cond b (Some e) r)
  value_of_choice true e r = refl
  value_of_choice false e r = refl

  -- the value that is found is that of the pair that is found
  pub lookup_by_entry : (t : List ℕ → Bool) (es : List (List ℕ × V)) → lookup t es ≡ option_map (λ (p : List ℕ × V). p.1) (lookup_entry t es)
  lookup_by_entry t [] = refl
  lookup_by_entry t (e ∷ es) = ap (cond (t e.0) (Some e.1)) (lookup_by_entry t es) ∙ value_of_choice (t e.0) e (lookup_entry t es)
