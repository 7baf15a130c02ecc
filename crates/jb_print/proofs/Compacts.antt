-- The compact text of a list and of an object, piece by piece.
use Rattle.std.proofs.Common.{◌≡◌, ℕ, true, false, List, [], ◌∷◌, ◌++◌, map, codes, refl, ap, ◌∙◌}
use Rattle.std.specs.List.{flat_map}
use Rattle.jb_tree.specs.declared.value.Value.{Value, Array, Object}
use Rattle.jb_tree.specs.Tree.{trees_of, tree}
use Rattle.jb_print.specs.Compact.{compact, compact_tree, compact_items, compact_members, comma_separated}
use Rattle.jb_print.specs.bridge.Pieces.{pieces_text, member_piece}
use Rattle.jb_print.proofs.Trees.{Member, members_tree, tree-Array, tree-Object}

later_pieces : (pieces : List (List ℕ)) → flat_map (λ piece. codes "," ++ piece) pieces ≡ pieces_text true pieces
later_pieces [] = refl
later_pieces (piece ∷ pieces) = ap (λ rest. codes "," ++ (piece ++ rest)) (later_pieces pieces)

pub comma_separated-pieces : (pieces : List (List ℕ)) → comma_separated pieces ≡ pieces_text false pieces
comma_separated-pieces [] = refl
comma_separated-pieces (piece ∷ pieces) = ap (λ rest. piece ++ rest) (later_pieces pieces)

compact_items-map : (items : List Value) → compact_items (trees_of (map tree items)) ≡ map compact items
compact_items-map [] = refl
compact_items-map (item ∷ items) = ap (λ rest. compact item ∷ rest) (compact_items-map items)

pub compact-Array : (items : List Value) → compact (Array items) ≡ codes "[" ++ (pieces_text false (map compact items) ++ codes "]")
compact-Array items =
    ap compact_tree (tree-Array items) ∙ ap (λ pieces. codes "[" ++ (comma_separated pieces ++ codes "]")) (compact_items-map items)
    ∙ ap (λ text. codes "[" ++ (text ++ codes "]")) (comma_separated-pieces (map compact items))

compact_members-map : (members : List Member) → compact_members (members_tree members) ≡ map member_piece members
compact_members-map [] = refl
compact_members-map (member ∷ members) = ap (λ rest. member_piece member ∷ rest) (compact_members-map members)

pub compact-Object : (members : List Member) → compact (Object members) ≡ codes "{" ++ (pieces_text false (map member_piece members) ++ codes "}")
compact-Object members =
    ap compact_tree (tree-Object members) ∙ ap (λ pieces. codes "{" ++ (comma_separated pieces ++ codes "}")) (compact_members-map members)
    ∙ ap (λ text. codes "{" ++ (text ++ codes "}")) (comma_separated-pieces (map member_piece members))
