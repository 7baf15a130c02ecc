-- What is in a list, and lists in which no two items are alike.
use Rattle.std.specs.Prelude.{◌≡◌, ◌⊎◌, List, [], ◌∷◌}

abbrev pub IsOneOf : {A : Type 0} → A → List A → Type 0
IsOneOf item [] = ⊥
IsOneOf item (x ∷ xs) = (item ≡ x) ⊎ IsOneOf item xs

abbrev pub AreApart : {A : Type 0} → List A → Type 0
AreApart [] = Unit {0}
AreApart (x ∷ xs) = ¬ (IsOneOf x xs) × AreApart xs
