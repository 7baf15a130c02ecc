-- What only private clauses and proofs cite, beside `Meaning`.
use Rattle.std.specs.Prelude.{◌≡◌, ℕ, List}
use Rattle.gql_resolvers.specs.declared.resolve_error.ResolveError.{ResolveError}
use Rattle.gql_resolvers.specs.declared.resolve_error.ResolveError.TheVariants.{Field, Memory}

-- a failure with this text, or out of memory
abbrev pub IsFailure : ResolveError → List ℕ → Type 0
IsFailure (Field error) text = error.message ≡ text
IsFailure Memory text = Unit {0}
