-- Things in pairs: lists of as many things, and values that are there or not.
use Rattle.std.specs.Prelude.{List, [], ◌∷◌}

-- as many of the one as of the other, and each is related to the one at its place
abbrev pub Paired : {X Y : Type 0} → (X → Y → Type 0) → List X → List Y → Type 0
Paired Related [] [] = Unit {0}
Paired Related (x ∷ xs) (y ∷ ys) = Related x y × Paired Related xs ys
Paired Related _ _ = ⊥
