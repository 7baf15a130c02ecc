-- What only private clauses and proofs cite, beside `Uses`.
use Rattle.std.specs.Prelude.{Option}
use Rattle.std.specs.Option.{option_and_then}
use Rattle.gql_source.specs.Span.{Span}
use Rattle.gql_ast_base.specs.declared.value.Value.{Value}

-- where a literal stands, if there is one
abbrev pub literal_place : Option Value → Option Span
literal_place literal = option_and_then (λ (value : Value). value.location) literal
