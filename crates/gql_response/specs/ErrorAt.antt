-- An error at a place of a document.
use Rattle.std.specs.Prelude.{ℕ, List, [], Option, Some, None, option_to_list}
use Rattle.std.specs.Option.{option_and_then}
use Rattle.std.specs.Map.{lookup}
use Rattle.gql_source.specs.declared.line_column.LineColumn.{LineColumn}
use Rattle.gql_source.specs.File.{Files, is_file}
use Rattle.gql_source.specs.Lines.{line_column_within}
use Rattle.gql_source.specs.Span.{Span}
use Rattle.gql_response.specs.declared.graphql_error.GraphQLError.{GraphQLError}

-- the line and column of the start of a location, where they are found in the files
abbrev pub place_in : Option Span → Files → Option LineColumn
place_in None sources = None
place_in (Some span) sources = option_and_then (λ file. line_column_within file.source_text span.offset) (lookup (is_file span.file_id) sources)

-- a message, and the place where it is found
abbrev pub error_at : List ℕ → Option Span → Files → GraphQLError
error_at message location sources =
    record { message = message; locations = option_to_list (place_in location sources); path = []; extensions = [] }
