-- Selections as far as their depth goes.
use Rattle.std.specs.Prelude.{ℕ, List, Option, Some, None, slice_get}
use Rattle.gql_source.specs.Span.{Span}

-- where a selection stands in a text
abbrev pub Place : Type 0
Place = Option Span

-- the selections of a set, in order: fields by how much each counts, spreads by the number of their fragment, and sets that stand inside
pub data Nested : Type 0 where
  nothing : Nested
  field_then : (weight : ℕ) (place : Place) → Nested → Nested → Nested
  spread_then : (fragment : ℕ) (place : Place) → Nested → Nested
  inline_then : Nested → Nested → Nested

-- the selections of each fragment, by its number
abbrev pub Fragments : Type 0
Fragments = List Nested

abbrev pub body_in : Option Nested → Nested
body_in None = nothing
body_in (Some body) = body

-- what a spread of a fragment stands for
abbrev pub body_of : Fragments → ℕ → Nested
body_of fragments f = body_in (slice_get fragments f)
