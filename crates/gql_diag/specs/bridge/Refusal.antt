-- What only private clauses and proofs cite, beside `Refusal`.
use Rattle.std.specs.Prelude.{ℕ, Bool, if◌then◌else◌, List, []}
use Rattle.gql_response.specs.RequestFault.{suspected_bug}
use Rattle.gql_response.specs.Response.{Member}
use Rattle.gql_response.specs.declared.graphql_error.GraphQLError.{GraphQLError}
use Rattle.gql_source.specs.declared.line_column.LineColumn.{LineColumn}
use Rattle.gql_diag.specs.Refusal.{error_with}

-- one that may be marked as a fault of validation
abbrev pub extensions_marked : Bool → List Member
extensions_marked marked = if marked then suspected_bug else []

abbrev pub error_marked : List ℕ → List LineColumn → Bool → GraphQLError
error_marked message places marked = record (error_with message places) { extensions = extensions_marked marked }
