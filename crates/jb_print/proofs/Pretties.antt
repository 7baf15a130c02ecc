-- The text of a list and of an object over several lines, piece by piece.
use Rattle.std.proofs.Common.{◌≡◌, ℕ, false, List, [], ◌∷◌, ◌++◌, map, codes, refl, ap, ◌∙◌, append_assoc}
use Rattle.jb_tree.specs.declared.value.Value.{Value, Array, Object}
use Rattle.jb_tree.specs.Tree.{array, object, trees_of, tree}
use Rattle.jb_print.specs.Compact.{comma_separated}
use Rattle.jb_print.specs.Pretty.{pretty_at, pretty_tree, pretty_items, pretty_members, deeper}
use Rattle.jb_print.specs.bridge.Pieces.{pieces_text, item_line, member_line, pretty_list, pretty_object}
use Rattle.jb_print.proofs.Trees.{Member, members_tree, tree-Array, tree-Object}
use Rattle.jb_print.proofs.Compacts.{comma_separated-pieces}

-- what stands between two brackets, with the line of the closing one
enclosed : (pieces : List (List ℕ)) (line : List ℕ) (opening closing : ℕ) → (opening ∷ comma_separated pieces) ++ line ++ closing ∷ [] ≡ opening ∷ (pieces_text false pieces ++ (line ++ closing ∷ []))
enclosed pieces line opening closing =
    append_assoc (opening ∷ comma_separated pieces) line (closing ∷ []) ∙ ap (λ text. opening ∷ (text ++ (line ++ closing ∷ []))) (comma_separated-pieces pieces)

pretty_items-map : (line : List ℕ) (items : List Value) → pretty_items line (trees_of (map tree items)) ≡ map (item_line line) items
pretty_items-map line [] = refl
pretty_items-map line (item ∷ items) = ap (λ rest. item_line line item ∷ rest) (pretty_items-map line items)

pretty-array : (line : List ℕ) (items : List Value) → pretty_tree line (array (trees_of (map tree items))) ≡ pretty_list line items
pretty-array line [] = refl
pretty-array line (item ∷ items) =
    ap (λ pieces. codes "[" ++ comma_separated pieces ++ line ++ codes "]") (pretty_items-map (deeper line) (item ∷ items))
    ∙ enclosed (map (item_line (deeper line)) (item ∷ items)) line 91 93

pub pretty-Array : (line : List ℕ) (items : List Value) → pretty_at line (Array items) ≡ pretty_list line items
pretty-Array line items = ap (pretty_tree line) (tree-Array items) ∙ pretty-array line items

pretty_members-map : (line : List ℕ) (members : List Member) → pretty_members line (members_tree members) ≡ map (member_line line) members
pretty_members-map line [] = refl
pretty_members-map line (member ∷ members) = ap (λ rest. member_line line member ∷ rest) (pretty_members-map line members)

pretty-object : (line : List ℕ) (members : List Member) → pretty_tree line (object (members_tree members)) ≡ pretty_object line members
pretty-object line [] = refl
pretty-object line (member ∷ members) =
    ap (λ pieces. codes "{" ++ comma_separated pieces ++ line ++ codes "}") (pretty_members-map (deeper line) (member ∷ members))
    ∙ enclosed (map (member_line (deeper line)) (member ∷ members)) line 123 125

pub pretty-Object : (line : List ℕ) (members : List Member) → pretty_at line (Object members) ≡ pretty_object line members
pretty-Object line members = ap (pretty_tree line) (tree-Object members) ∙ pretty-object line members
