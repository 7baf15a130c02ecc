-- What only private clauses and proofs cite, beside `Bytes`.
use Rattle.std.specs.Prelude.{◌≡◌, ℕ, ◌-◌, ◌≤◌, List}
use Rattle.std.specs.Prelude.{length, drop, Option}
use Rattle.std.specs.List.{slice_get}

-- the first byte, if there is one
abbrev pub first : List ℕ → Option ℕ
first at = slice_get at 0

-- what is left of a text is its end
abbrev pub IsEnd : List ℕ → List ℕ → Type 0
IsEnd rest text = (length rest ≤ length text) × (rest ≡ drop (length text - length rest) text)
