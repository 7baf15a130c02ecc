-- What only private clauses and proofs cite, beside `Flooding`.
use Rattle.std.specs.Prelude.{ℕ, if◌then◌else◌, List, [], ◌∷◌, ◌++◌, slice_get, slice_set}
use Rattle.gql_graph.specs.Flooding.{has}

abbrev pub marked : ℕ → ℕ → List ℕ → ℕ → List ℕ
marked from to states v = if has from (slice_get states v) then slice_set states v to else states

abbrev pub queued : ℕ → List ℕ → List ℕ → ℕ → List ℕ
queued from states queue v = if has from (slice_get states v) then queue ++ v ∷ [] else queue

abbrev pub all_marked : ℕ → ℕ → List ℕ → List ℕ → List ℕ
all_marked from to states [] = states
all_marked from to states (v ∷ vs) = all_marked from to (marked from to states v) vs

abbrev pub all_queued : ℕ → ℕ → List ℕ → List ℕ → List ℕ → List ℕ
all_queued from to states queue [] = queue
all_queued from to states queue (v ∷ vs) = all_queued from to (marked from to states v) (queued from states queue v) vs
