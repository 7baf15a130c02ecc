-- The compact texts of what refusals are made of.
use Rattle.std.proofs.Common.{rules, ◌≡◌, Bool, ◌++◌, ◌∷◌, [], true, pos, map, codes, refl, ◌∙◌, sym, ap, append_assoc, ℕ, List}
use Rattle.std.proofs.lemmas.List.{append-nil}
use Rattle.jb_tree.specs.declared.value.Value.{Value, the_lemmas}
use Rattle.jb_tree.specs.declared.value.Value.TheVariants as json
use Rattle.jb_print.specs.Compact.{compact}
use Rattle.jb_print.specs.bridge.Pieces.{member_piece, pieces_text}
use Rattle.jb_print.specs.Quoted.{quoted, escaped}
use Rattle.jb_print.proofs.Compacts.{compact-Array, compact-Object}
use Rattle.gql_diag.specs.Refusal.{message_error, refusal_value}
use Rattle.gql_diag.specs.bridge.Refusal.{error_marked, extensions_marked}
use Rattle.gql_response.proofs.Texts.{compact-String as string_text, later_members, list_text, member_text}
use Rattle.gql_response.specs.Response.{Member, error_members, error_value, list_member, location_value, object_member}
use Rattle.gql_response.specs.declared.graphql_error.GraphQLError.{GraphQLError}
use Rattle.gql_source.specs.declared.line_column.LineColumn.{LineColumn}

item_text : (value : Value) → compact (json.Array (value ∷ [])) ≡ codes "[" ++ compact value ++ codes "]"
item_text value = compact-Array (value ∷ []) ∙ simp append_assoc

closing : (text : List ℕ) → text ++ codes "}" ++ codes "]" ++ codes "}" ≡ text ++ codes "}]}"
closing text = simp append_assoc

pub refusal_text : (message : List ℕ) → compact (refusal_value (message_error message ∷ [])) ≡ codes "{\"errors\":[{\"message\":" ++ quoted message ++ codes "}]}"
unfolding escaped
refusal_text message =
    rw (member_text, item_text, member_text, string_text) (ap (λ text. codes "{\"errors\":[{\"message\":" ++ text) (closing (quoted message)))

-- the member that has the places of an error
abbrev pub places : List LineColumn → List (List ℕ × Value)
places found = list_member (codes "locations") (map location_value found)

-- the member that marks an error as a fault of validation
abbrev pub mark : Bool → List Member
mark marked = object_member (codes "extensions") (extensions_marked marked)

-- an object whose first member is there, as it is written step by step
around : (old opening key text first second : List ℕ)
    → ((((old ++ (opening ++ key)) ++ text) ++ first) ++ second) ++ codes "}" ≡ old ++ (opening ++ (((key ++ text) ++ (first ++ second)) ++ codes "}"))
around old opening key text first second = simp append_assoc

pub error_text : (message : List ℕ) (found : List LineColumn) (marked : Bool) (old : List ℕ)
    → ((((old ++ codes "{\"message\":") ++ quoted message) ++ pieces_text true (map member_piece (places found))) ++ pieces_text true (map member_piece (mark marked))) ++ codes "}"
    ≡ old ++ compact (error_value (error_marked message found marked))
unfolding escaped
error_text message found marked old =
    around old (codes "{") (codes "\"message\":") (quoted message) (pieces_text true (map member_piece (places found))) (pieces_text true (map member_piece (mark marked)))
    ∙ sym (ap (λ text. old ++ text) (
    compact-Object (error_members (error_marked message found marked))
    ∙ ap (λ text. codes "{" ++ ((member_piece (codes "message", json.String message) ++ text) ++ codes "}")) (later_members (places found) (mark marked))
    ∙ ap (λ text. codes "{" ++ (((quoted (codes "message") ++ codes ":" ++ text) ++ (pieces_text true (map member_piece (places found)) ++ pieces_text true (map member_piece (mark marked)))) ++ codes "}")) (string_text message)))

true_text : compact (json.Bool true) ≡ codes "true"
true_text = search (rules, the_lemmas)

pub mark_text : codes ",\"extensions\":{\"APOLLO_SUSPECTED_VALIDATION_BUG\":true}" ≡ pieces_text true (map member_piece (mark true))
unfolding escaped
mark_text =
    sym (ap (λ text. codes "," ++ ((quoted (codes "extensions") ++ codes ":" ++ text) ++ []))
    (member_text (codes "APOLLO_SUSPECTED_VALIDATION_BUG") (json.Bool true)
    ∙ ap (λ text. codes "{" ++ (quoted (codes "APOLLO_SUSPECTED_VALIDATION_BUG") ++ codes ":" ++ text) ++ codes "}") true_text))

one_closing : (text : List ℕ) → (text ++ codes "]") ++ codes "}" ≡ text ++ codes "]}"
one_closing text = simp append_assoc

pub one_error_text : (error : GraphQLError) → compact (refusal_value (error ∷ [])) ≡ (codes "{\"errors\":[" ++ compact (error_value error)) ++ codes "]}"
one_error_text error =
    list_text (error_value error ∷ [])
    ∙ ap (λ text. (codes "{\"errors\":" ++ text) ++ codes "}") (item_text (error_value error))
    ∙ ap (λ text. codes "{\"errors\":[" ++ text) (one_closing (compact (error_value error)))

two_members : (first between second last : List ℕ) → (first ++ (between ++ (second ++ []))) ++ last ≡ first ++ (between ++ (second ++ last))
two_members first between second last = simp (append_assoc, append-nil)

location_text : (place : LineColumn) → compact (location_value place)
    ≡ codes "{\"line\":" ++ (compact (json.Number (pos place.line)) ++ (codes ",\"column\":" ++ (compact (json.Number (pos place.column)) ++ codes "}")))
unfolding escaped
location_text place =
    compact-Object ((codes "line", json.Number (pos place.line)) ∷ (codes "column", json.Number (pos place.column)) ∷ [])
    ∙ ap (λ text. codes "{\"line\":" ++ text)
    (two_members (compact (json.Number (pos place.line))) (codes ",\"column\":") (compact (json.Number (pos place.column))) (codes "}"))

pub place_text : (place : LineColumn) (old : List ℕ)
    → ((((old ++ codes ",\"locations\":[{\"line\":") ++ compact (json.Number (pos place.line))) ++ codes ",\"column\":") ++ compact (json.Number (pos place.column))) ++ codes "}]"
    ≡ old ++ pieces_text true (map member_piece (places (place ∷ [])))
unfolding escaped
place_text place old =
    sym (ap (λ text. old ++ (codes "," ++ ((quoted (codes "locations") ++ codes ":" ++ text) ++ [])))
    (item_text (location_value place) ∙ ap (λ text. codes "[" ++ text ++ codes "]") (location_text place))
    ∙ simp (append_assoc, append-nil) refl)
