-- What only private clauses and proofs cite, beside `Task`.
use Rattle.std.specs.Prelude.{ℕ, List}
use Rattle.gql_engine.specs.Task.{IsCount}

abbrev pub IsNoCount : List ℕ → Type 0
IsNoCount word = (n : ℕ) → IsCount word n → ⊥
