-- Responses as programs hold them, and with the places of their names left aside.
use Rattle.std.specs.Prelude.{◌≡◌, ℕ, ◌-◌, ◌^◌, ◌≤◌, true, map, None}
use Rattle.jb_shape.specs.Faithful.{AllOf}
use Rattle.gql_source.specs.declared.line_column.LineColumn.{LineColumn}
use Rattle.gql_ast_base.specs.Names.{is_name}
use Rattle.gql_response.specs.declared.graphql_error.GraphQLError.{GraphQLError}
use Rattle.gql_response.specs.declared.path.ResponseDataPathSegment.{ResponseDataPathSegment}
use Rattle.gql_response.specs.declared.path.ResponseDataPathSegment.TheVariants.{Field, ListIndex}
use Rattle.gql_response.specs.declared.execution_response.ExecutionResponse.{ExecutionResponse}

-- a count of 64 bits
abbrev pub IsCount : ℕ → Type 0
IsCount n = n ≤ 2 ^ 64 - 1

pub record IsHeldLocation (location : LineColumn) : Type 0 where
  pub line : IsCount location.line
  pub column : IsCount location.column

-- names are names, and indexes counts
abbrev pub IsHeldSegment : ResponseDataPathSegment → Type 0
IsHeldSegment (Field name) = is_name name.text ≡ true
IsHeldSegment (ListIndex index) = IsCount index

pub record IsHeldError (error : GraphQLError) : Type 0 where
  pub locations : AllOf IsHeldLocation error.locations
  pub path : AllOf IsHeldSegment error.path

abbrev pub IsHeld : ExecutionResponse → Type 0
IsHeld response = AllOf IsHeldError response.errors

abbrev pub unplaced_segment : ResponseDataPathSegment → ResponseDataPathSegment
unplaced_segment (Field name) = Field (record { text = name.text; location = None })
unplaced_segment (ListIndex index) = ListIndex index

abbrev pub unplaced_error : GraphQLError → GraphQLError
unplaced_error error = record error { path = map unplaced_segment error.path }

-- the response with each name in its paths from no place
abbrev pub unplaced : ExecutionResponse → ExecutionResponse
unplaced response = record response { errors = map unplaced_error response.errors }
