-- What only private clauses and proofs cite, beside `Told`.
use Rattle.std.specs.Prelude.{◌≡◌, ℕ, List}
use Rattle.gql_engine.specs.Serving.{line}
use Rattle.gql_engine.specs.declared.output.Output.{Output}
use Rattle.gql_engine.specs.declared.output.Output.TheVariants.{Refused}
use Rattle.gql_cost.specs.declared.limited_error.LimitedError.{LimitedError}
use Rattle.gql_cost.specs.Told.{IsLimitedTold}

-- the output is the line of that
abbrev pub IsLimitedLine : LimitedError → Output → Type 0
IsLimitedLine refusal output = (text : List ℕ) × IsLimitedTold refusal text × (output ≡ Refused (line text))
