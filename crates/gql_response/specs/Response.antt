-- A response as a JSON value (GraphQL October 2021, section 7.1).
use Rattle.std.specs.Prelude.{ℕ, pos, List, [], ◌∷◌, ◌++◌, map, Option, Some, None, codes}
use Rattle.jb_tree.specs.declared.value.Value.{Value}
use Rattle.jb_tree.specs.declared.value.Value.TheVariants as json
use Rattle.gql_source.specs.declared.line_column.LineColumn.{LineColumn}
use Rattle.gql_response.specs.declared.graphql_error.GraphQLError.{GraphQLError}
use Rattle.gql_response.specs.declared.path.ResponseDataPathSegment.{ResponseDataPathSegment}
use Rattle.gql_response.specs.declared.path.ResponseDataPathSegment.TheVariants.{Field, ListIndex}
use Rattle.gql_response.specs.declared.execution_response.ExecutionResponse.{ExecutionResponse}

abbrev pub Member : Type 0
Member = List ℕ × Value

abbrev pub location_value : LineColumn → Value
location_value location = json.Object ((codes "line", json.Number (pos location.line)) ∷ (codes "column", json.Number (pos location.column)) ∷ [])

abbrev pub segment_value : ResponseDataPathSegment → Value
segment_value (Field name) = json.String name.text
segment_value (ListIndex index) = json.Number (pos index)

-- a member whose value is a list, where that has items
abbrev pub list_member : List ℕ → List Value → List Member
list_member key [] = []
list_member key (item ∷ items) = (key, json.Array (item ∷ items)) ∷ []

-- a member whose value is an object, where that has members
abbrev pub object_member : List ℕ → List Member → List Member
object_member key [] = []
object_member key (member ∷ members) = (key, json.Object (member ∷ members)) ∷ []

-- an error: its message, and then its locations, its path and its extensions, each where there are any
abbrev pub error_members : GraphQLError → List Member
error_members error =
    (codes "message", json.String error.message)
    ∷ (list_member (codes "locations") (map location_value error.locations)
    ++ (list_member (codes "path") (map segment_value error.path)
    ++ object_member (codes "extensions") error.extensions))

abbrev pub error_value : GraphQLError → Value
error_value error = json.Object (error_members error)

abbrev pub data_value : Option (List Member) → Value
data_value None = json.Null
data_value (Some members) = json.Object members

-- the errors where there are any, then the data
abbrev pub response_value : ExecutionResponse → Value
response_value response =
    json.Object (list_member (codes "errors") (map error_value response.errors) ++ (codes "data", data_value response.root) ∷ [])

-- a refusal: an object with errors alone
abbrev pub refusal_value : List GraphQLError → Value
refusal_value errors = json.Object ((codes "errors", json.Array (map error_value errors)) ∷ [])
