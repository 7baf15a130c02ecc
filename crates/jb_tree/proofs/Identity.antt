-- Two lists of pairs that are the same so far, one pair further.
use Rattle.std.proofs.Common.{◌≡◌, ℕ, ◌+◌, ◌<◌, ◌++◌, ◌∷◌, [], List, length, take, slice_get, Some, sym, ◌∙◌}
use Rattle.std.specs.Map.{keys_of, values_of}
use Rattle.jb_map.proofs.Entries.{pair_at, take_pair}
use Rattle.jb_tree.specs.declared.value.Value.{Value}

module _ (es fs : List (List ℕ × Value)) (i : ℕ) where
  pub one_more_pair : (k l : List ℕ) (v w : Value) → i < length es → i < length fs
      → slice_get (keys_of es) i ≡ Some k → slice_get (values_of es) i ≡ Some v → slice_get (keys_of fs) i ≡ Some l → slice_get (values_of fs) i ≡ Some w
      → k ≡ l → v ≡ w → take i es ≡ take i fs → take (i + 1) es ≡ take (i + 1) fs
  one_more_pair k l v w in_es in_fs key value key' value' keys values so_far =
      sym (take_pair es i (k, v) in_es (pair_at es i k v key value))
      ∙ (λ j. so_far j ++ (keys j, values j) ∷ [])
      ∙ take_pair fs i (l, w) in_fs (pair_at fs i l w key' value')
