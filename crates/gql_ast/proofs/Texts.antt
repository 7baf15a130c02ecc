-- The text of a list and of an object, piece by piece.
use Rattle.std.proofs.Common.{◌≡◌, ℕ, true, false, List, [], ◌∷◌, ◌++◌, map, codes, refl, ap, ◌∙◌, rules}
use Rattle.std.specs.List.{flat_map}
use Rattle.gql_ast_base.specs.Names.{Named}
use Rattle.gql_ast_base.specs.declared.value.Value.{Value}
use Rattle.gql_ast_base.specs.declared.value.ValueKind.{List as ListKind, Object as ObjectKind, the_lemmas}
use Rattle.gql_ast.specs.bridge.Pieces.{pieces_text}
use Rattle.gql_ast.specs.ValueText.{separated, kind_text, value_text}
use Rattle.gql_ast.specs.bridge.ValueText.{member_text}

later_pieces : (pieces : List (List ℕ)) → flat_map (λ piece. codes ", " ++ piece) pieces ≡ pieces_text true pieces
later_pieces [] = refl
later_pieces (piece ∷ pieces) = ap (λ rest. codes ", " ++ (piece ++ rest)) (later_pieces pieces)

separated-pieces : (pieces : List (List ℕ)) → separated pieces ≡ pieces_text false pieces
separated-pieces [] = refl
separated-pieces (piece ∷ pieces) = ap (λ rest. piece ++ rest) (later_pieces pieces)

text-List : (items : List Value) → kind_text (ListKind items) ≡ codes "[" ++ (separated (map value_text items) ++ codes "]")
text-List items = search (rules, the_lemmas)

abbrev pair_text : Named × List ℕ → List ℕ
pair_text pair = pair.0.text ++ codes ": " ++ pair.1

-- the pairs of an object with the text of each value in its place
abbrev written : List (Named × Value) → List (Named × List ℕ)
written members = map (λ member. (member.0, value_text member.1)) members

text-Object : (members : List (Named × Value)) → kind_text (ObjectKind members) ≡ codes "{" ++ (separated (map pair_text (written members)) ++ codes "}")
text-Object members = search (rules, the_lemmas)

pair_texts : (members : List (Named × Value)) → map pair_text (written members) ≡ map member_text members
pair_texts [] = refl
pair_texts (member ∷ members) = ap (λ rest. member_text member ∷ rest) (pair_texts members)

pub kind_text-List : (items : List Value) → kind_text (ListKind items) ≡ codes "[" ++ (pieces_text false (map value_text items) ++ codes "]")
kind_text-List items = text-List items ∙ ap (λ text. codes "[" ++ (text ++ codes "]")) (separated-pieces (map value_text items))

pub kind_text-Object : (members : List (Named × Value)) → kind_text (ObjectKind members) ≡ codes "{" ++ (pieces_text false (map member_text members) ++ codes "}")
kind_text-Object members =
    text-Object members ∙ ap (λ texts. codes "{" ++ (separated texts ++ codes "}")) (pair_texts members)
    ∙ ap (λ text. codes "{" ++ (text ++ codes "}")) (separated-pieces (map member_text members))
