-- What only private clauses and proofs cite, beside `Diagnosed`.
use Rattle.std.specs.Prelude.{◌≤◌, Option, Some, None}
use Rattle.gql_lexer.specs.declared.error.CstError.{CstError}
use Rattle.gql_parser.specs.Diagnosed.{range_of}

-- an error's range, if there is one, does not end before it starts
abbrev pub IsOrdered : Option CstError → Type 0
IsOrdered None = Unit {0}
IsOrdered (Some error) = (range_of error).start ≤ (range_of error).end
