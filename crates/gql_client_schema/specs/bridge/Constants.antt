-- What only private clauses and proofs cite, beside `Constants`.
use Rattle.std.specs.Prelude.{ℕ, List, Option, Some, None}
use Rattle.gql_client_schema.specs.Constants.{IsConstant, IsNoConstant}

-- how the constant value is printed that the text is, if it is one
abbrev pub IsConstantIn : List ℕ → Option (List ℕ) → Type 0
IsConstantIn text (Some printed) = IsConstant text printed
IsConstantIn text None = IsNoConstant text
