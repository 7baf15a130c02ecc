-- Which key comes next when the pairs of a map are taken in the order of their keys.
use Rattle.std.specs.Prelude.{ℕ, Bool, true, ◌&&◌, if◌then◌else◌, List, Option, Some, None, slice_get, fold}
use Rattle.std.specs.Map.{keys_of}
use Rattle.jb_map.specs.ByKey.{is_below}

-- the key of the pair at a place
abbrev pub key_of : {X : Type 0} → List (List ℕ × X) → Option ℕ → Option (List ℕ)
key_of es None = None
key_of es (Some i) = slice_get (keys_of es) i

-- the key comes after the last one taken
abbrev pub is_after : Option (List ℕ) → List ℕ → Bool
is_after None q = true
is_after (Some k) q = is_below k q

-- the key comes before the least one seen
abbrev pub is_before : Option (List ℕ) → List ℕ → Bool
is_before None q = true
is_before (Some k) q = is_below q k

-- the least key seen, once q is seen too
abbrev pub lesser_key : Option (List ℕ) → Option (List ℕ) → List ℕ → Option (List ℕ)
lesser_key last least q = if is_after last q && is_before least q then Some q else least

-- the least of the keys after the last one taken
abbrev pub next_key : Option (List ℕ) → List (List ℕ) → Option (List ℕ)
next_key last ks = fold (lesser_key last) None ks
