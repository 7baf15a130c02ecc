-- The depth check that enters each fragment once and remembers its depth: where it accepts, and where it refuses.
use Rattle.std.specs.Prelude.{ℕ, ◌+◌, [], ◌∷◌}
use Rattle.gql_collect.specs.Nested.{Nested, nothing, field_then, spread_then, inline_then, Fragments}

-- every selection, at every depth
abbrev pub total : Nested → ℕ
total nothing = 0
total (field_then weight place within rest) = 1 + (total within + total rest)
total (spread_then f place rest) = 1 + total rest
total (inline_then body rest) = 1 + (total body + total rest)

abbrev pub total_fragments : Fragments → ℕ
total_fragments [] = 0
total_fragments (fragment ∷ fragments) = total fragment + total_fragments fragments
