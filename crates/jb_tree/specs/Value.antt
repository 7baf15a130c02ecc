use Rattle.std.specs.Prelude.{ℕ, ℤ, List, Option, Some, None, Bool, true, false}
use Rattle.jb_tree.specs.declared.value.Value.{Value, out-Value}
use Rattle.jb_tree.specs.declared.value.Value.TheOpen.{Value-F}

-- the members of one level, where it is an object
abbrev pub members_at : Value-F Value → Option (List (List ℕ × Value))
members_at (Value-F.Object members) = Some members
members_at _ = None

-- the items of one level, where it is an array
abbrev pub items_at : Value-F Value → Option (List Value)
items_at (Value-F.Array items) = Some items
items_at _ = None

-- the text of one level, where it is a string
abbrev pub text_at : Value-F Value → Option (List ℕ)
text_at (Value-F.String text) = Some text
text_at _ = None

-- the number of one level, where it is one
abbrev pub number_at : Value-F Value → Option ℤ
number_at (Value-F.Number number) = Some number
number_at _ = None

-- the truth value of one level, where it is one
abbrev pub truth_at : Value-F Value → Option Bool
truth_at (Value-F.Bool truth) = Some truth
truth_at _ = None

abbrev pub null_at : Value-F Value → Bool
null_at Value-F.Null = true
null_at _ = false

-- the same of a value, by its outermost level
abbrev pub object_members : Value → Option (List (List ℕ × Value))
object_members value = members_at (out-Value value)

abbrev pub array_items : Value → Option (List Value)
array_items value = items_at (out-Value value)

abbrev pub string_text : Value → Option (List ℕ)
string_text value = text_at (out-Value value)

abbrev pub whole_number : Value → Option ℤ
whole_number value = number_at (out-Value value)

abbrev pub truth_value : Value → Option Bool
truth_value value = truth_at (out-Value value)

abbrev pub is_null : Value → Bool
is_null value = null_at (out-Value value)
