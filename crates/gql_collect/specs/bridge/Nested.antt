-- What only private clauses and proofs cite, beside `Nested`.
use Rattle.std.specs.Prelude.{◌<◌, ◌≤◌, ℕ, length}
use Rattle.gql_collect.specs.Nested.{Nested, field_then, inline_then, nothing, spread_then, Fragments, body_of}

-- each spread, at every depth, is of a fragment of a smaller rank
abbrev pub IsBelow : (ℕ → ℕ) → ℕ → Nested → Type 0
IsBelow rank r nothing = Unit {0}
IsBelow rank r (field_then weight place within rest) = IsBelow rank r within × IsBelow rank r rest
IsBelow rank r (spread_then f place rest) = (rank f < r) × IsBelow rank r rest
IsBelow rank r (inline_then body rest) = IsBelow rank r body × IsBelow rank r rest

-- no fragment leads back to itself: each has a rank above those of the fragments that it spreads
pub record AreRanked (fragments : Fragments) (rank : ℕ → ℕ) : Type 0 where
  pub bodies : (f : ℕ) → IsBelow rank (rank f) (body_of fragments f)
  pub bounded : (f : ℕ) → rank f ≤ length fragments
