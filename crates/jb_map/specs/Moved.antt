-- What stands after pairs went into a map one after another, until one was refused.
use Rattle.std.specs.Prelude.{◌≡◌, ℕ, ◌<◌, List, length, take, drop}
use Rattle.std.specs.Str.{bytes_eq}
use Rattle.indexmap.specs.IndexMap.{insert_all}

module _ {V : Type 0} where
  -- some of the pairs went in, in order, but not all
  abbrev pub InsertsSome : List (List ℕ × V) → List (List ℕ × V) → List (List ℕ × V) → Type 0
  InsertsSome old pairs new = (n : ℕ) × (n < length pairs) × (new ≡ insert_all bytes_eq old (take n pairs))

  -- the same, and the pairs that did not go in are left
  abbrev pub MovesSome : List (List ℕ × V) → List (List ℕ × V) → List (List ℕ × V) → List (List ℕ × V) → Type 0
  MovesSome old pairs new left = (n : ℕ) × (n < length pairs) × (new ≡ insert_all bytes_eq old (take n pairs)) × (left ≡ drop n pairs)
