-- What is still to be written of a list or an object.
use Rattle.std.specs.Prelude.{ℕ, Bool, true, false, List, [], ◌∷◌, ◌++◌, codes}

-- a comma behind an earlier piece
abbrev pub comma_after : Bool → List ℕ
comma_after true = codes ", "
comma_after false = []

-- the pieces from some place on, each behind its comma
abbrev pub pieces_text : Bool → List (List ℕ) → List ℕ
pieces_text later [] = []
pieces_text later (piece ∷ pieces) = comma_after later ++ (piece ++ pieces_text true pieces)
