-- What a JSON value is read as: a response, and its parts. The members of an object are judged as they stand, and what
-- is missing after all of them.
use Rattle.std.specs.Prelude.{◌≡◌, ℕ, ◌-◌, ◌^◌, if◌then◌else◌, List, [], Option, Some, None, Result, Ok, Err, codes}
use Rattle.std.specs.Str.{bytes_eq}
use Rattle.jb_text.specs.declared.refused.Refused.{Refused}
use Rattle.jb_text.specs.declared.refused.Refused.TheVariants as refused
use Rattle.jb_tree.specs.declared.value.Value.{Value}
use Rattle.jb_tree.specs.Value.{object_members, string_text, is_null}
use Rattle.jb_read.specs.declared.fault.ReadFault.{ReadFault}
use Rattle.jb_read.specs.Texts.{text_value}
use Rattle.jb_shape.specs.declared.shape_error.ShapeError.{ShapeError}
use Rattle.jb_shape.specs.declared.shape_error.ShapeError.TheVariants.{WrongKind, UnknownField}
use Rattle.jb_shape.specs.Outcome.{and_then}
use Rattle.jb_shape.specs.Scalars.{of_kind, read_unsigned, read_text}
use Rattle.jb_shape.specs.Lists.{read_list}
use Rattle.jb_shape.specs.Variants.{present}
use Rattle.gql_source.specs.declared.line_column.LineColumn.{LineColumn}
use Rattle.gql_ast_base.specs.Names.{is_name}
use Rattle.gql_response.specs.declared.graphql_error.GraphQLError.{GraphQLError}
use Rattle.gql_response.specs.declared.path.ResponseDataPathSegment.{ResponseDataPathSegment}
use Rattle.gql_response.specs.declared.path.ResponseDataPathSegment.TheVariants.{Field, ListIndex}
use Rattle.gql_response.specs.declared.execution_response.ExecutionResponse.{ExecutionResponse}
use Rattle.gql_response.specs.declared.fault.ResponseFault.{ResponseFault}
use Rattle.gql_response.specs.declared.fault.ResponseFault.TheVariants.{Read, Shape}
use Rattle.gql_response.specs.declared.location.LocationParts.{LocationParts}
use Rattle.gql_response.specs.declared.error_parts.ErrorParts.{ErrorParts}
use Rattle.gql_response.specs.Response.{Member}
use Rattle.gql_response.specs.Puts.{parts_of}

-- a whole number that counts or places something
abbrev pub read_count : Value → Result ℕ ShapeError
read_count = read_unsigned (2 ^ 64 - 1)

abbrev pub put_location : LocationParts → Member → Result LocationParts ShapeError
put_location parts member =
    if bytes_eq member.0 (codes "line") then and_then (read_count member.1) (λ n. Ok (record parts { line = Some n }))
    else (if bytes_eq member.0 (codes "column") then and_then (read_count member.1) (λ n. Ok (record parts { column = Some n }))
    else Err UnknownField)

abbrev pub whole_location : LocationParts → Result LineColumn ShapeError
whole_location parts =
    and_then (present parts.line) (λ line. and_then (present parts.column) (λ column. Ok (record { line = line; column = column })))

abbrev pub read_location : Value → Result LineColumn ShapeError
read_location value = and_then (parts_of put_location (record { line = None; column = None }) value) whole_location

-- a name, from no place, or another kind of value where it is none
abbrev pub named : List ℕ → Result ResponseDataPathSegment ShapeError
named text = if is_name text then Ok (Field (record { text = text; location = None })) else Err WrongKind

abbrev pub segment_of : Option (List ℕ) → Value → Result ResponseDataPathSegment ShapeError
segment_of (Some text) value = named text
segment_of None value = and_then (read_count value) (λ index. Ok (ListIndex index))

abbrev pub read_segment : Value → Result ResponseDataPathSegment ShapeError
read_segment value = segment_of (string_text value) value

abbrev pub put_error : ErrorParts → Member → Result ErrorParts ShapeError
put_error parts member =
    if bytes_eq member.0 (codes "message") then and_then (read_text member.1) (λ text. Ok (record parts { message = Some text }))
    else (if bytes_eq member.0 (codes "locations") then and_then (read_list read_location member.1) (λ items. Ok (record parts { locations = items }))
    else (if bytes_eq member.0 (codes "path") then and_then (read_list read_segment member.1) (λ items. Ok (record parts { path = items }))
    else (if bytes_eq member.0 (codes "extensions") then and_then (of_kind (object_members member.1)) (λ pairs. Ok (record parts { extensions = pairs }))
    else Err UnknownField)))

abbrev pub whole_error : ErrorParts → Result GraphQLError ShapeError
whole_error parts =
    and_then (present parts.message)
    (λ message. Ok (record { message = message; locations = parts.locations; path = parts.path; extensions = parts.extensions }))

abbrev pub no_parts : ErrorParts
no_parts = record { message = None; locations = []; path = []; extensions = [] }

abbrev pub read_error : Value → Result GraphQLError ShapeError
read_error value = and_then (parts_of put_error no_parts value) whole_error

-- null, or an object
abbrev pub read_data : Value → Result (Option (List Member)) ShapeError
read_data value = if is_null value then Ok None else and_then (of_kind (object_members value)) (λ members. Ok (Some members))

abbrev pub put_response : ExecutionResponse → Member → Result ExecutionResponse ShapeError
put_response response member =
    if bytes_eq member.0 (codes "errors") then and_then (read_list read_error member.1) (λ items. Ok (record response { errors = items }))
    else (if bytes_eq member.0 (codes "data") then and_then (read_data member.1) (λ root. Ok (record response { root = root }))
    else Err UnknownField)

-- no errors where there is no such member, and null where there are no data
abbrev pub read_response : Value → Result ExecutionResponse ShapeError
read_response = parts_of put_response (record { errors = []; root = None })

abbrev pub shaped : Result ExecutionResponse ShapeError → Result ExecutionResponse ResponseFault
shaped (Ok response) = Ok response
shaped (Err cause) = Err (Shape cause)

abbrev pub response_of : Result Value ReadFault → Result ExecutionResponse ResponseFault
response_of (Ok value) = shaped (read_response value)
response_of (Err fault) = Err (Read fault)

-- what a text is read as: the fault of the text, or else of the shape of what it holds
abbrev pub response_read : List ℕ → Result ExecutionResponse ResponseFault
response_read bytes = response_of (text_value bytes)

-- the response or the fault that is wanted; out of memory is free
abbrev pub Answered : Result ExecutionResponse ResponseFault → Result ExecutionResponse (Refused ResponseFault) → Type 0
Answered wanted (Ok response) = wanted ≡ Ok response
Answered wanted (Err (refused.Fault fault)) = wanted ≡ Err fault
Answered wanted (Err refused.Memory) = Unit {0}
