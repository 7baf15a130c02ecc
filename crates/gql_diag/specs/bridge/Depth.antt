-- What only private clauses and proofs cite, beside `Depth`.
use Rattle.std.specs.Prelude.{ℕ, ◌+◌, Option, Some, None}
use Rattle.gql_diag.specs.Depth.{Depth}

-- one level more
abbrev pub deeper : Depth → Depth
deeper counter = record counter { depth = counter.depth + 1 }

-- what dropping a guard leaves: the levels that were open before the step that gave it, or all as it is
abbrev pub undone : Option ℕ → Depth → Depth
undone None counter = counter
undone (Some depth) counter = record counter { depth = depth }
