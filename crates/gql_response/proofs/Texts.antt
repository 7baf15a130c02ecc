-- The compact texts of what responses are made of.
use Rattle.std.proofs.Common.{◌≡◌, ℕ, true, false, List, [], ◌∷◌, ◌++◌, map, length, ◌==◌, codes, refl, ap, ◌∙◌, append_assoc, rules}
use Rattle.std.proofs.lemmas.List.{append-nil}
use Rattle.gql_response.specs.declared.graphql_error.GraphQLError.{GraphQLError}
use Rattle.gql_response.specs.Response.{Member, error_value, list_member}
use Rattle.jb_tree.specs.declared.value.Value.{Value, String, Array, Object, the_lemmas}
use Rattle.jb_print.specs.Compact.{compact}
use Rattle.jb_print.specs.Quoted.{quoted, escaped}
use Rattle.jb_print.specs.bridge.Pieces.{pieces_text, member_piece}
use Rattle.jb_print.proofs.Compacts.{compact-Object}

pub compact-String : (text : List ℕ) → compact (String text) ≡ quoted text
compact-String text = search (rules, the_lemmas)

pub member_text : (key : List ℕ) (value : Value) → compact (Object ((key, value) ∷ [])) ≡ codes "{" ++ (quoted key ++ codes ":" ++ compact value) ++ codes "}"
member_text key value = compact-Object ((key, value) ∷ []) ∙ simp append_assoc

-- an object with errors alone
pub list_text : (errors : List Value) → compact (Object ((codes "errors", Array errors) ∷ [])) ≡ (codes "{\"errors\":" ++ compact (Array errors)) ++ codes "}"
unfolding escaped
list_text errors = member_text (codes "errors") (Array errors) ∙ simp append_assoc

pub later_members : (xs ys : List Member) → pieces_text true (map member_piece (xs ++ ys)) ≡ pieces_text true (map member_piece xs) ++ pieces_text true (map member_piece ys)
later_members [] ys = refl
later_members (x ∷ xs) ys = ap (λ rest. codes "," ++ (member_piece x ++ rest)) (later_members xs ys) ∙ simp append_assoc

-- an object of two members, as it is written step by step
pub two_members : (old first one second other : List ℕ)
    → (((((old ++ codes "{") ++ ([] ++ first)) ++ one) ++ (codes "," ++ second)) ++ other) ++ codes "}"
    ≡ old ++ (codes "{" ++ (([] ++ ((first ++ one) ++ (codes "," ++ ((second ++ other) ++ [])))) ++ codes "}"))
two_members old first one second other = simp (append_assoc, append-nil)

-- an object whose first member is there, as it is written step by step
pub three_members : (old key value first second third : List ℕ)
    → ((((((old ++ codes "{") ++ ([] ++ key)) ++ value) ++ first) ++ second) ++ third) ++ codes "}"
    ≡ old ++ (codes "{" ++ (([] ++ ((key ++ value) ++ (first ++ (second ++ third)))) ++ codes "}"))
three_members old key value first second third = simp append_assoc

-- the errors of a response, and the comma behind them
pub errors_first : (old : List ℕ) (errors : List GraphQLError) (member : Member) → (length errors == 0) ≡ false
    → (((old ++ ([] ++ (quoted (codes "errors") ++ codes ":"))) ++ compact (Array (map error_value errors))) ++ codes ",") ++ member_piece member
    ≡ old ++ pieces_text false (map member_piece (list_member (codes "errors") (map error_value errors) ++ member ∷ []))
errors_first old [] member h = absurd (let f : true ≡ false = h in cc)
errors_first old (error ∷ errors) member h = joined old (quoted (codes "errors") ++ codes ":") (compact (Array (error_value error ∷ map error_value errors))) (member_piece member)
  where
    joined : (old key value last : List ℕ) → (((old ++ ([] ++ key)) ++ value) ++ codes ",") ++ last ≡ old ++ ([] ++ ((key ++ value) ++ (codes "," ++ (last ++ []))))
    joined old key value last = simp (append_assoc, append-nil)

-- an object of which all is written but the last value
pub response_text : (before old all key value : List ℕ) → before ++ (key ++ value) ≡ (old ++ codes "{") ++ all
    → ((before ++ ([] ++ key)) ++ value) ++ codes "}" ≡ old ++ (codes "{" ++ (all ++ codes "}"))
response_text before old all key value h =
    ap (λ l. l ++ codes "}") (append_assoc before key value ∙ h) ∙ simp append_assoc
