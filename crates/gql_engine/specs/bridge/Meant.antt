-- What only private clauses and proofs cite, beside `Meant`.
use Rattle.std.specs.Prelude.{ℕ, List, Option, Some, None}
use Rattle.gql_diag.specs.List.{Diagnostics}
use Rattle.gql_engine.specs.Meant.{Meant, AreFaults}

-- what is wrong with the first text that means nothing, or nothing where both mean something
abbrev pub AreTextsChecked : List ℕ → List ℕ → Option Diagnostics → Type 0
AreTextsChecked schema query None = Meant schema query
AreTextsChecked schema query (Some list) = AreFaults schema query list
