-- The value of a JSON value of another make, where each of its numbers is whole and of 64 bits.
use Rattle.std.specs.Prelude.{◌≡◌, ℕ, ℤ, pos, ⊤, List, [], ◌∷◌, Option, Some, None, option_map, option_and_then, Result, Ok, Err}
use Rattle.std.specs.Str.{bytes_eq}
use Rattle.indexmap.specs.IndexMap.{insert_all}
use Rattle.serde_json.specs.Data.{Num, unsigned, negative, float, Data, null, boolean, number, string, array, object, Items, no_items, item, Members}
use Rattle.serde_json.specs.Data.{no_members, member}
use Rattle.jb_text.specs.declared.refused.Refused.{Refused}
use Rattle.jb_text.specs.declared.refused.Refused.TheVariants.{Fault, Memory}
use Rattle.jb_from_json.specs.declared.from_json.FromJsonFault.{FromJsonFault}
use Rattle.jb_tree.specs.declared.value.Value.{Value, Null, Bool, Number, String, Array, Object}

-- the whole number, where it is one
abbrev pub whole_of : Num → Option ℤ
whole_of (unsigned n) = Some (pos n)
whole_of (negative z) = Some z
whole_of (float x) = None

-- the value, or nothing where some number is not whole; an object's members go in one after another, in their order
abbrev mutual
  pub value_of : Data → Option Value
  value_of null = Some Null
  value_of (boolean truth) = Some (Bool truth)
  value_of (number n) = option_map Number (whole_of n)
  value_of (string text) = Some (String text)
  value_of (array items) = option_map Array (items_of items)
  value_of (object members) = option_map (λ pairs. Object (insert_all bytes_eq [] pairs)) (members_of members)

  pub items_of : Items → Option (List Value)
  items_of no_items = Some []
  items_of (item first others) = option_and_then (λ value. option_map (λ values. value ∷ values) (items_of others)) (value_of first)

  pub members_of : Members → Option (List (List ℕ × Value))
  members_of no_members = Some []
  members_of (member key first others) = option_and_then (λ value. option_map (λ pairs. (key, value) ∷ pairs) (members_of others)) (value_of first)

-- what is made is what is meant; a fault comes just where nothing is meant
abbrev pub IsTaken : {A : Type 0} → Result A (Refused FromJsonFault) → Option A → Type 0
IsTaken (Ok made) meant = meant ≡ Some made
IsTaken (Err (Fault _)) meant = meant ≡ None
IsTaken (Err Memory) meant = ⊤
