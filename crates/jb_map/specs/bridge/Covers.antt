-- One list of keys has all those of another.
use Rattle.std.specs.Prelude.{◌≡◌, ℕ, List, true}
use Rattle.std.specs.List.{AllByRecursion, list_any}
use Rattle.std.specs.Str.{bytes_eq}

abbrev pub Covers : List (List ℕ) → List (List ℕ) → Type 0
Covers all ks = AllByRecursion (λ k. list_any (bytes_eq k) all ≡ true) ks
