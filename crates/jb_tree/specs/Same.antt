-- The order of an object's pairs left aside: two values are the same where they are equal once the pairs are sorted by
-- key, stably, at every level.
use Rattle.std.specs.Prelude.{◌≡◌, ℕ, ⊤, List, [], ◌∷◌, Option, Some, None}
use Rattle.std.specs.Str.{bytes_eq}
use Rattle.std.specs.Map.{lookup}
use Rattle.jb_map.specs.ByKey.{by_key}
use Rattle.jb_tree.specs.declared.value.Value.{Value, fold-Value, Null, Bool, Number, String, Array, Object}
use Rattle.jb_tree.specs.declared.value.Value.TheOpen.{Value-F}

-- one level, with what is inside sorted already
abbrev pub sorted_step : Value-F Value → Value
sorted_step Value-F.Null = Null
sorted_step (Value-F.Bool truth) = Bool truth
sorted_step (Value-F.Number number) = Number number
sorted_step (Value-F.String text) = String text
sorted_step (Value-F.Array items) = Array items
sorted_step (Value-F.Object members) = Object (by_key members)

-- the value with the pairs of each object, at every level, sorted by key; of pairs with one key the first stays first
abbrev pub sorted : Value → Value
sorted = fold-Value Value sorted_step

abbrev pub Same : Value → Value → Type 0
Same a b = sorted a ≡ sorted b

-- the same items in order
abbrev pub SameItems : List Value → List Value → Type 0
SameItems [] [] = ⊤
SameItems (x ∷ xs) (y ∷ ys) = Same x y × SameItems xs ys
SameItems _ _ = ⊥

-- two values that are the same, or none on either side
abbrev pub SameIfAny : Option Value → Option Value → Type 0
SameIfAny None None = ⊤
SameIfAny (Some a) (Some b) = Same a b
SameIfAny _ _ = ⊥

-- the same keys, and the same value at each
abbrev pub SameMembers : List (List ℕ × Value) → List (List ℕ × Value) → Type 0
SameMembers es fs = (key : List ℕ) → SameIfAny (lookup (bytes_eq key) es) (lookup (bytes_eq key) fs)
