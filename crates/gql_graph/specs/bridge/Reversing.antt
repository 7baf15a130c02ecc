-- The steps of turning a graph round.
use Rattle.std.specs.Prelude.{ℕ, List, [], ◌∷◌, ◌++◌, replicate, slice_get, slice_set}
use Rattle.std.specs.Option.{option_map_or}
use Rattle.gql_graph.specs.Graph.{Graph}

abbrev pub no_edges : ℕ → Graph
no_edges count = replicate count []

-- an edge more, from the other node to this one
abbrev pub added : Graph → ℕ → ℕ → Graph
added g node other = option_map_or (λ row. slice_set g other (row ++ node ∷ [])) (slice_get g other) g

abbrev pub all_added : Graph → ℕ → List ℕ → Graph
all_added g node [] = g
all_added g node (other ∷ others) = all_added (added g node other) node others
