-- What is still to be written of a list or an object.
use Rattle.std.specs.Prelude.{ℕ, Bool, true, false, List, [], ◌∷◌, ◌++◌, map, codes}
use Rattle.jb_tree.specs.declared.value.Value.{Value}
use Rattle.jb_print.specs.Compact.{compact}
use Rattle.jb_print.specs.Pretty.{pretty_at, deeper}
use Rattle.jb_print.specs.Quoted.{quoted}

-- a comma behind an earlier piece
abbrev pub comma_after : Bool → List ℕ
comma_after true = codes ","
comma_after false = []

-- the pieces from some place on, each behind its comma
abbrev pub pieces_text : Bool → List (List ℕ) → List ℕ
pieces_text later [] = []
pieces_text later (piece ∷ pieces) = comma_after later ++ (piece ++ pieces_text true pieces)

-- one pair of an object
abbrev pub member_piece : List ℕ × Value → List ℕ
member_piece member = quoted member.0 ++ codes ":" ++ compact member.1

-- a line of its own for an item
abbrev pub item_line : List ℕ → Value → List ℕ
item_line line item = line ++ pretty_at line item

-- and for a pair
abbrev pub member_line : List ℕ → List ℕ × Value → List ℕ
member_line line member = line ++ quoted member.0 ++ codes ": " ++ pretty_at line member.1

-- a list on several lines, or `[]`
abbrev pub pretty_list : List ℕ → List Value → List ℕ
pretty_list line [] = codes "[]"
pretty_list line (item ∷ items) = codes "[" ++ (pieces_text false (map (item_line (deeper line)) (item ∷ items)) ++ (line ++ codes "]"))

-- an object on several lines, or `{}`
abbrev pub pretty_object : List ℕ → List (List ℕ × Value) → List ℕ
pretty_object line [] = codes "{}"
pretty_object line (member ∷ members) = codes "{" ++ (pieces_text false (map (member_line (deeper line)) (member ∷ members)) ++ (line ++ codes "}"))
