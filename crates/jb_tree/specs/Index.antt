-- What an index names in a value, and what a value becomes so that there is such a place.
use Rattle.std.specs.Prelude.{◌≡◌, ℕ, ⊤, List, [], ◌∷◌, ◌++◌, length, slice_get, slice_set, nat_lt, if◌then◌else◌}
use Rattle.std.specs.Prelude.{Option, Some, None, option_and_then, is_some, Result, Ok, Err}
use Rattle.std.specs.Borrow.{MutBor}
use Rattle.std.specs.Str.{bytes_eq}
use Rattle.std.specs.Map.{lookup, set_value}
use Rattle.jb_text.specs.declared.refused.Refused.{Refused}
use Rattle.jb_text.specs.declared.refused.Refused.TheVariants.{Fault, Memory}
use Rattle.jb_tree.specs.Value.{object_members, array_items}
use Rattle.jb_tree.specs.declared.index.IndexError.{IndexError}
use Rattle.jb_tree.specs.declared.index.IndexError.TheVariants.{NoPlace, NotArray, NotObject}
use Rattle.jb_tree.specs.declared.value.Value.{Value, out-Value, Null, Array, Object}
use Rattle.jb_tree.specs.declared.value.Value.TheOpen.{Value-F}

-- the item of an array at a place
abbrev pub item_at : ℕ → Value → Option Value
item_at place value = option_and_then (λ items. slice_get items place) (array_items value)

-- the value of an object at a key
abbrev pub member_at : List ℕ → Value → Option Value
member_at key value = option_and_then (lookup (bytes_eq key)) (object_members value)

-- one level with a place for an item, or why it can have none
abbrev pub with_item_at : ℕ → Value-F Value → Value → Result Value IndexError
with_item_at place (Value-F.Array items) whole = if nat_lt place (length items) then Ok whole else Err (NoPlace place (length items))
with_item_at place _ whole = Err NotArray

abbrev pub with_item : ℕ → Value → Result Value IndexError
with_item place value = with_item_at place (out-Value value) value

-- the pairs, with one more of null, last, where the key is new
abbrev pub with_key : List ℕ → List (List ℕ × Value) → List (List ℕ × Value)
with_key key members = if is_some (lookup (bytes_eq key) members) then members else members ++ (key, Null) ∷ []

-- one level with a place for a member, or why it can have none: null becomes an object
abbrev pub with_member_at : List ℕ → Value-F Value → Result Value IndexError
with_member_at key Value-F.Null = Ok (Object ((key, Null) ∷ []))
with_member_at key (Value-F.Object members) = Ok (Object (with_key key members))
with_member_at key _ = Err NotObject

abbrev pub with_member : List ℕ → Value → Result Value IndexError
with_member key value = with_member_at key (out-Value value)

-- one level with w in the place of an item, where there is one
abbrev pub item_put_at : ℕ → Value-F Value → Value → Value → Value
item_put_at place (Value-F.Array items) whole w = Array (slice_set items place w)
item_put_at place _ whole w = whole

abbrev pub item_put : ℕ → Value → Value → Value
item_put place value w = item_put_at place (out-Value value) value w

-- one level with w in the place of a member, where there is one
abbrev pub member_put_at : List ℕ → Value-F Value → Value → Value → Value
member_put_at key (Value-F.Object members) whole w = Object (set_value (bytes_eq key) members w)
member_put_at key _ whole w = whole

abbrev pub member_put : List ℕ → Value → Value → Value
member_put key value w = member_put_at key (out-Value value) value w

-- what it answers, and leaves, to put `given` where `found` stands: what stood there, with the whole changed there alone; or
-- `given` itself, with the whole as it was, where nothing stands there
abbrev pub IsPut : {W : Type 0} → Result Value Value → Value → Option Value → W → W → W → Type 0
IsPut (Ok stood) given found old changed new = (found ≡ Some stood) × (new ≡ changed)
IsPut (Err back) given found old changed new = (found ≡ None) × (back ≡ given) × (new ≡ old)

-- what making a place answers and leaves: a refused call leaves the value as it was
abbrev pub IsMade : Result ⊤ (Refused IndexError) → Value → Value → Result Value IndexError → Type 0
IsMade (Ok _) old new made = made ≡ Ok new
IsMade (Err (Fault fault)) old new made = (made ≡ Err fault) × (new ≡ old)
IsMade (Err Memory) old new made = new ≡ old

-- what making and lending a place answers
abbrev pub IsLent : Result (MutBor Value) (Refused IndexError) → Result Value IndexError → (Value → Option Value) → Type 0
IsLent (Ok found) made finds = (new : Value) × (made ≡ Ok new) × (finds new ≡ Some found.now)
IsLent (Err (Fault fault)) made finds = made ≡ Err fault
IsLent (Err Memory) made finds = ⊤
