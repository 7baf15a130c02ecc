-- A key among the pairs of an object, once it was put there; an item of an array.
use Rattle.std.proofs.Common.{◌≡◌, ℕ, zero, suc, ◌<◌, length, slice_get, subst, arith, rules, true, List, [], ◌∷◌, ◌++◌, Option, Some, None, IsSome, is_some, if◌then◌else◌, position, refl, sym, ap, ◌∙◌}
use Rattle.std.specs.Str.{bytes_eq}
use Rattle.std.specs.Map.{keys_of}
use Rattle.indexmap.proofs.MapLemmas.{some_index}
use Rattle.jb_tree.specs.Index.{with_key, item_at}
use Rattle.jb_tree.specs.declared.value.Value.{Value, Null, Array, the_lemmas}

module _ (key : List ℕ) (es : List (List ℕ × Value)) where
  pub with_key-present : (i : ℕ) → Some i ≡ position (bytes_eq key) (keys_of es) → es ≡ with_key key es
  with_key-present i at = sym (ap (λ b. if b then es else es ++ (key, Null) ∷ []) (sym (some_index (bytes_eq key) es) ∙ ap is_some (sym at)))

  pub with_key-absent : None ≡ position (bytes_eq key) (keys_of es) → es ++ (key, Null) ∷ [] ≡ with_key key es
  with_key-absent none = sym (ap (λ b. if b then es else es ++ (key, Null) ∷ []) (sym (some_index (bytes_eq key) es) ∙ ap is_some (sym none)))

some_within : (xs : List Value) (i : ℕ) → i < length xs → is_some (slice_get xs i) ≡ true
some_within [] i within = absurd (omega arith)
some_within (x ∷ xs) zero within = refl
some_within (x ∷ xs) (suc i) within = some_within xs i (omega arith)

-- an array has an item at each place below its length
pub there-item : (items : List Value) (place : ℕ) → place < length items → IsSome (item_at place (Array items))
there-item items place within =
    let at : item_at place (Array items) ≡ slice_get items place = search (rules, the_lemmas) in
    subst (λ (found : Option Value). IsSome found) (sym at) (some_within items place within)
