-- Members of an object, one by one.
use Rattle.std.proofs.Common.{◌≡◌, ℕ, zero, suc, List, [], ◌∷◌, ◌++◌, slice_get, get_or, Some, refl}
use Rattle.std.specs.Map.{keys_of, values_of}
use Rattle.std.specs.Str.{bytes_eq}
use Rattle.indexmap.specs.IndexMap.{insert_entry, insert_all}

module _ {V : Type 0} where
  -- one more is put in last
  pub insert_all_push : (es xs : List (List ℕ × V)) (key : List ℕ) (value : V) → insert_all bytes_eq es (xs ++ (key, value) ∷ []) ≡ insert_entry bytes_eq (insert_all bytes_eq es xs) key value
  insert_all_push es [] key value = refl
  insert_all_push es (x ∷ xs) key value = insert_all_push (insert_entry bytes_eq es x.0 x.1) xs key value

  -- a pair by its key and its value at a place
  pub pair_at : (es : List (List ℕ × V)) (i : ℕ) (k : List ℕ) (v : V) → slice_get (keys_of es) i ≡ Some k → slice_get (values_of es) i ≡ Some v → (k, v) ≡ get_or es i (k, v)
  pair_at [] i k v a b = refl
  pair_at (e ∷ es) zero k v a b = let key : k ≡ e.0 = cc in let value : v ≡ e.1 = cc in λ j. (key j, value j)
  pair_at (e ∷ es) (suc i) k v a b = pair_at es i k v a b
