-- A key that is looked up in vain has no place among the keys.
use Rattle.std.proofs.Common.{◌≡◌, ℕ, Option, Some, None, false, is_some, position, List, refl, ◌∙◌}
use Rattle.std.specs.Map.{keys_of, lookup}
use Rattle.std.specs.Str.{bytes_eq}
use Rattle.indexmap.proofs.MapLemmas.{some_index}

none_of : (o : Option ℕ) → is_some o ≡ false → o ≡ None
none_of None none = refl
none_of (Some i) none = absurd cc

pub no-place : {X : Type 0} (k : List ℕ) (es : List (List ℕ × X)) → is_some (lookup (bytes_eq k) es) ≡ false → position (bytes_eq k) (keys_of es) ≡ None
no-place k es none = none_of (position (bytes_eq k) (keys_of es)) (some_index (bytes_eq k) es ∙ none)
