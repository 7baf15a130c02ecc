-- The expanded depth of selections.
use Rattle.std.specs.Prelude.{ℕ, zero, suc, ◌+◌, max, length}
use Rattle.gql_collect.specs.Nested.{Nested, nothing, field_then, spread_then, inline_then, Fragments, body_of}

-- the greatest number of counted fields on one chain of nested selections, where a spread stands for what its fragment is
abbrev pub depth_with : (ℕ → ℕ) → Nested → ℕ
depth_with depth_of nothing = 0
depth_with depth_of (field_then weight place within rest) = max (weight + depth_with depth_of within) (depth_with depth_of rest)
depth_with depth_of (spread_then f place rest) = max (depth_of f) (depth_with depth_of rest)
depth_with depth_of (inline_then body rest) = max (depth_with depth_of body) (depth_with depth_of rest)

-- that of a fragment, at most so many fragments inside one another
abbrev pub fragment_depth : Fragments → ℕ → ℕ → ℕ
fragment_depth fragments zero f = 0
fragment_depth fragments (suc n) f = depth_with (fragment_depth fragments n) (body_of fragments f)

-- Where no fragment leads back to itself, no more are inside one another than there are.
abbrev pub most : Fragments → ℕ
most fragments = suc (length fragments)

-- that of selections, each spread replaced by what its fragment selects
abbrev pub expanded_depth : Fragments → Nested → ℕ
expanded_depth fragments selections = depth_with (fragment_depth fragments (most fragments)) selections
