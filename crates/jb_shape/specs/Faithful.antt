-- Which things come back from the values that stand for them.
use Rattle.std.specs.Prelude.{◌≢◌, ℕ, ℤ, pos, negsuc, ◌≤◌, List, [], ◌∷◌}

-- a whole number from the negative of one more than the greatest of its type
abbrev pub IsSigned : ℕ → ℤ → Type 0
IsSigned most (pos n) = n ≤ most
IsSigned most (negsuc n) = n ≤ most

-- each of a list
abbrev pub AllOf : {A : Type 0} → (A → Type 0) → List A → Type 0
AllOf P [] = Unit {0}
AllOf P (x ∷ xs) = P x × AllOf P xs

-- the key of none of the pairs
abbrev pub IsNoKey : {K V : Type 0} → K → List (K × V) → Type 0
IsNoKey key [] = Unit {0}
IsNoKey key (pair ∷ pairs) = (key ≢ pair.0) × IsNoKey key pairs

abbrev pub HasDistinctKeys : {K V : Type 0} → List (K × V) → Type 0
HasDistinctKeys [] = Unit {0}
HasDistinctKeys (pair ∷ pairs) = IsNoKey pair.0 pairs × HasDistinctKeys pairs

-- pairs with distinct keys, each part of its type
abbrev pub AreMembers : {K V : Type 0} → (K → Type 0) → (V → Type 0) → List (K × V) → Type 0
AreMembers P Q pairs = AllOf (λ pair. P pair.0 × Q pair.1) pairs × HasDistinctKeys pairs
