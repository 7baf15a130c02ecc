-- The errors of refusals, which are those of responses (GraphQL October 2021, section 7.1.2).
use Rattle.std.specs.Prelude.{ℕ, List, [], map}
use Rattle.gql_diag.specs.List.{Diagnostics}
use Rattle.gql_diag_messages.specs.Details.{message_of}
use Rattle.gql_diag_messages.specs.declared.diagnostic_data.DiagnosticData.{DiagnosticData}
use Rattle.gql_response.specs.ErrorAt.{error_at}
pub use Rattle.gql_response.specs.Response.{refusal_value}
use Rattle.gql_response.specs.declared.graphql_error.GraphQLError.{GraphQLError}
use Rattle.gql_source.specs.File.{Files}
use Rattle.gql_source.specs.declared.line_column.LineColumn.{LineColumn}

-- an error with a message and places, without a path and extensions
abbrev pub error_with : List ℕ → List LineColumn → GraphQLError
error_with message places = record { message = message; locations = places; path = []; extensions = [] }

-- one that is a message alone
abbrev pub message_error : List ℕ → GraphQLError
message_error message = error_with message []

-- the error of a diagnostic: its message, and the start of its place where that is found
abbrev pub error_of : Files → DiagnosticData → GraphQLError
error_of sources item = error_at (message_of item.details) item.location sources

-- those of the diagnostics of a list
abbrev pub errors_of : Diagnostics → List GraphQLError
errors_of list = map (error_of list.sources) list.items
