-- What stands for a response is read as it, the places of names aside.
use Rattle.std.proofs.Common.{◌≡◌, ℕ, ◌-◌, ◌^◌, pos, true, false, List, [], ◌∷◌, ◌++◌, map, Option, Some, None, Result, Ok, Err, codes, refl, ◌∙◌, ap, rules}
use Rattle.jb_tree.specs.declared.value.Value.{Value, the_lemmas}
use Rattle.jb_tree.specs.declared.value.Value.TheVariants as json
use Rattle.jb_tree.specs.Value.{array_items, object_members, string_text, is_null}
use Rattle.jb_shape.specs.declared.shape_error.ShapeError.{ShapeError}
use Rattle.jb_shape.specs.Outcome.{and_then, each}
use Rattle.jb_shape.specs.Faithful.{AllOf}
use Rattle.jb_shape.specs.Scalars.{of_kind}
use Rattle.jb_shape.specs.Lists.{read_list}
use Rattle.jb_shape.specs.Back.{unsigned_back, text_back}
use Rattle.gql_source.specs.declared.line_column.LineColumn.{LineColumn}
use Rattle.gql_response.specs.declared.graphql_error.GraphQLError.{GraphQLError}
use Rattle.gql_response.specs.declared.path.ResponseDataPathSegment.{ResponseDataPathSegment}
use Rattle.gql_response.specs.declared.path.ResponseDataPathSegment.TheVariants.{Field, ListIndex}
use Rattle.gql_response.specs.declared.execution_response.ExecutionResponse.{ExecutionResponse}
use Rattle.gql_response.specs.declared.error_parts.ErrorParts.{ErrorParts}
use Rattle.gql_response.specs.Response.{Member, location_value, segment_value, list_member, object_member, error_members, error_value, data_value, response_value}
use Rattle.gql_response.specs.Puts.{in_turn, parts_of}
use Rattle.gql_response.specs.Reading.{read_count, read_location, read_segment, segment_of, put_error, no_parts, whole_error, read_error, read_data, put_response, read_response}
use Rattle.gql_response.specs.Held.{IsCount, IsHeldLocation, IsHeldSegment, IsHeldError, IsHeld, unplaced_segment, unplaced_error, unplaced}

items-Array : (values : List Value) → array_items (json.Array values) ≡ Some values
items-Array values = search (rules, the_lemmas)

members-Object : (members : List Member) → object_members (json.Object members) ≡ Some members
members-Object members = search (rules, the_lemmas)

text-String : (text : List ℕ) → string_text (json.String text) ≡ Some text
text-String text = search (rules, the_lemmas)

text-Number : (n : ℕ) → string_text (json.Number (pos n)) ≡ None
text-Number n = search (rules, the_lemmas)

null-Null : is_null json.Null ≡ true
null-Null = search (rules, the_lemmas)

null-Object : (members : List Member) → is_null (json.Object members) ≡ false
null-Object members = search (rules, the_lemmas)

count_back : (n : ℕ) → IsCount n → read_count (json.Number (pos n)) ≡ Ok n
count_back n h = unsigned_back (2 ^ 64 - 1) n h

-- an object's parts, by its members
parts_of-Object : {P : Type 0} (put : P → Member → Result P ShapeError) (none : P) (members : List Member) → parts_of put none (json.Object members) ≡ in_turn put none members
parts_of-Object put none members = ap (λ (o : Option (List Member)). and_then (of_kind o) (in_turn put none)) (members-Object members)

in_turn-append : {P : Type 0} (put : P → Member → Result P ShapeError) (parts : P) (front more : List Member) → in_turn put parts (front ++ more) ≡ and_then (in_turn put parts front) (λ after. in_turn put after more)
in_turn-append put parts [] more = refl
in_turn-append {P} put parts (member ∷ front) more = further (put parts member) (λ after. in_turn-append put after front more)
  where
    further : (first : Result P ShapeError) → ((after : P) → in_turn put after (front ++ more) ≡ and_then (in_turn put after front) (λ last. in_turn put last more))
        → and_then first (λ after. in_turn put after (front ++ more)) ≡ and_then (and_then first (λ after. in_turn put after front)) (λ last. in_turn put last more)
    further (Ok after) h = h after
    further (Err cause) h = refl

-- each item of an array
each_back : {A B : Type 0} (read : Value → Result B ShapeError) (shown : A → Value) (back : A → B) (P : A → Type 0) → ((x : A) → P x → read (shown x) ≡ Ok (back x))
    → (xs : List A) → AllOf P xs → each read (map shown xs) ≡ Ok (map back xs)
each_back read shown back P one [] all = refl
each_back read shown back P one (x ∷ xs) all = rw (one x all.0, each_back read shown back P one xs all.1)

list_back : {A B : Type 0} (read : Value → Result B ShapeError) (shown : A → Value) (back : A → B) (P : A → Type 0) → ((x : A) → P x → read (shown x) ≡ Ok (back x))
    → (xs : List A) → AllOf P xs → read_list read (json.Array (map shown xs)) ≡ Ok (map back xs)
list_back read shown back P one xs all =
    ap (λ (o : Option (List Value)). and_then (of_kind o) (each read)) (items-Array (map shown xs)) ∙ each_back read shown back P one xs all

location_back : (location : LineColumn) → IsHeldLocation location → read_location (location_value location) ≡ Ok location
location_back location held =
    rw (members-Object, count_back location.line held.line, count_back location.column held.column)

segment_back : (segment : ResponseDataPathSegment) → IsHeldSegment segment → read_segment (segment_value segment) ≡ Ok (unplaced_segment segment)
segment_back (Field name) held = ap (λ o. segment_of o (json.String name.text)) (text-String name.text) ∙ rw held
segment_back (ListIndex index) held = ap (λ o. segment_of o (json.Number (pos index))) (text-Number index) ∙ rw (count_back index held)

map_same : {A : Type 0} (xs : List A) → map (λ x. x) xs ≡ xs
map_same [] = refl
map_same (x ∷ xs) = ap (λ l. x ∷ l) (map_same xs)

locations_back : (locations : List LineColumn) → AllOf IsHeldLocation locations → read_list read_location (json.Array (map location_value locations)) ≡ Ok locations
locations_back locations held = list_back read_location location_value (λ x. x) IsHeldLocation location_back locations held ∙ ap Ok (map_same locations)

path_back : (path : List ResponseDataPathSegment) → AllOf IsHeldSegment path → read_list read_segment (json.Array (map segment_value path)) ≡ Ok (map unplaced_segment path)
path_back path held = list_back read_segment segment_value unplaced_segment IsHeldSegment segment_back path held

-- ---- the members of an error, one part after the other

abbrev parts : List ℕ → List LineColumn → List ResponseDataPathSegment → List Member → ErrorParts
parts message places steps more = record { message = Some message; locations = places; path = steps; extensions = more }

message_put : (message : List ℕ) → put_error no_parts (codes "message", json.String message) ≡ Ok (parts message [] [] [])
message_put message = ap (λ r. and_then r (λ text. Ok (parts text [] [] []))) (text_back message)

locations_put : (message : List ℕ) (places : List LineColumn) → AllOf IsHeldLocation places
    → in_turn put_error (parts message [] [] []) (list_member (codes "locations") (map location_value places)) ≡ Ok (parts message places [] [])
locations_put message [] held = refl
locations_put message (place ∷ places) held = rw (locations_back (place ∷ places) held)

path_put : (message : List ℕ) (places : List LineColumn) (steps : List ResponseDataPathSegment) → AllOf IsHeldSegment steps
    → in_turn put_error (parts message places [] []) (list_member (codes "path") (map segment_value steps)) ≡ Ok (parts message places (map unplaced_segment steps) [])
path_put message places [] held = refl
path_put message places (step ∷ steps) held = rw (path_back (step ∷ steps) held)

extensions_put : (message : List ℕ) (places : List LineColumn) (steps : List ResponseDataPathSegment) (more : List Member)
    → in_turn put_error (parts message places steps []) (object_member (codes "extensions") more) ≡ Ok (parts message places steps more)
extensions_put message places steps [] = refl
extensions_put message places steps (member ∷ members) = rw (members-Object (member ∷ members))

members_put : (error : GraphQLError) → IsHeldError error → in_turn put_error no_parts (error_members error) ≡ Ok (parts error.message error.locations (map unplaced_segment error.path) error.extensions)
members_put error held =
    let places : List Member = list_member (codes "locations") (map location_value error.locations) in
    let steps : List Member = list_member (codes "path") (map segment_value error.path) in
    let more : List Member = object_member (codes "extensions") error.extensions in
    ap (λ r. and_then r (λ after. in_turn put_error after (places ++ (steps ++ more)))) (message_put error.message)
    ∙ in_turn-append put_error (parts error.message [] [] []) places (steps ++ more)
    ∙ ap (λ r. and_then r (λ after. in_turn put_error after (steps ++ more))) (locations_put error.message error.locations held.locations)
    ∙ in_turn-append put_error (parts error.message error.locations [] []) steps more
    ∙ ap (λ r. and_then r (λ after. in_turn put_error after more)) (path_put error.message error.locations error.path held.path)
    ∙ extensions_put error.message error.locations (map unplaced_segment error.path) error.extensions

error_back : (error : GraphQLError) → IsHeldError error → read_error (error_value error) ≡ Ok (unplaced_error error)
error_back error held =
    ap (λ r. and_then r whole_error) (parts_of-Object put_error no_parts (error_members error) ∙ members_put error held)

-- ---- the members of a response

abbrev answered : List GraphQLError → Option (List Member) → ExecutionResponse
answered errors root = record { errors = errors; root = root }

errors_put : (errors : List GraphQLError) → AllOf IsHeldError errors → in_turn put_response (answered [] None) (list_member (codes "errors") (map error_value errors)) ≡ Ok (answered (map unplaced_error errors) None)
errors_put [] held = refl
errors_put (error ∷ errors) held = rw (list_back read_error error_value unplaced_error IsHeldError error_back (error ∷ errors) held)

root_back : (root : Option (List Member)) → read_data (data_value root) ≡ Ok root
root_back None = rw null-Null
root_back (Some members) = rw (null-Object members, members-Object members)

root_put : (errors : List GraphQLError) (root : Option (List Member)) → in_turn put_response (answered errors None) ((codes "data", data_value root) ∷ []) ≡ Ok (answered errors root)
root_put errors root = ap (λ r. and_then (and_then r (λ read. Ok (answered errors read))) (λ after. Ok after)) (root_back root)

pub response_back : (response : ExecutionResponse) → IsHeld response → read_response (response_value response) ≡ Ok (unplaced response)
response_back response held =
    let errors : List Member = list_member (codes "errors") (map error_value response.errors) in
    let last : List Member = (codes "data", data_value response.root) ∷ [] in
    parts_of-Object put_response (answered [] None) (errors ++ last)
    ∙ in_turn-append put_response (answered [] None) errors last
    ∙ ap (λ r. and_then r (λ after. in_turn put_response after last)) (errors_put response.errors held)
    ∙ root_put (map unplaced_error response.errors) response.root
