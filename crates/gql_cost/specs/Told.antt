-- What a client is told of a refusal: the errors of an object with errors alone (GraphQL October 2021, section 7.1.2).
use Rattle.std.specs.Prelude.{ℕ, List, [], ◌∷◌, Option, Some, codes}
use Rattle.gql_diag.specs.Refusal.{message_error}
use Rattle.gql_response.specs.declared.graphql_error.GraphQLError.{GraphQLError}
use Rattle.gql_engine.specs.Told.{IsJsonOf, errors_told}
use Rattle.gql_cost.specs.declared.limited_error.LimitedError.{LimitedError}
use Rattle.gql_cost.specs.declared.limited_error.LimitedError.TheVariants.{Answer, TooCostly}

-- none where memory ran out
abbrev pub limited_errors : LimitedError → Option (List GraphQLError)
limited_errors (Answer refusal) = errors_told refusal
limited_errors TooCostly = Some (message_error (codes "cost above limit") ∷ [])

abbrev pub IsLimitedTold : LimitedError → List ℕ → Type 0
IsLimitedTold refusal text = IsJsonOf (limited_errors refusal) text
