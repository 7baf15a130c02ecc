-- Texts behind one another.
use Rattle.std.specs.Prelude.{ℕ, Bool, true, false, List, [], ◌∷◌, ◌++◌, codes}

-- each behind a space
abbrev pub spaced : List (List ℕ) → List ℕ
spaced [] = []
spaced (text ∷ texts) = codes " " ++ (text ++ spaced texts)

-- in braces, where there are some
abbrev pub block : List (List ℕ) → List ℕ
block [] = []
block (text ∷ texts) = codes " {" ++ (spaced (text ∷ texts) ++ codes " }")

-- the text, if it is to stand
abbrev pub between_if : List ℕ → Bool → List ℕ
between_if text true = text
between_if text false = []

-- what is still to be written of texts with a text between them
abbrev pub pieces : List ℕ → Bool → List (List ℕ) → List ℕ
pieces between later [] = []
pieces between later (text ∷ texts) = between_if between later ++ (text ++ pieces between true texts)

-- the texts with one between them
abbrev pub joined : List ℕ → List (List ℕ) → List ℕ
joined between texts = pieces between false texts
