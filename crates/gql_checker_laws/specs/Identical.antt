-- Whether two JSON values are one and the same tree, the order of pairs included.
use Rattle.std.specs.Prelude.{ℕ, ℤ, pos, negsuc, Bool, true, false, ◌&&◌, nat_eq, List, [], ◌∷◌, Option, Some, None}
use Rattle.std.specs.Str.{bytes_eq}
use Rattle.jb_tree.specs.declared.value.Value.{Value, fold-Value}
use Rattle.jb_tree.specs.declared.value.Value.TheOpen.{Value-F}
use Rattle.jb_tree.specs.Value.{array_items, object_members, string_text, whole_number, truth_value, is_null}

abbrev pub same_truth : Bool → Bool → Bool
same_truth true other = other
same_truth false true = false
same_truth false false = true

abbrev pub same_whole : ℤ → ℤ → Bool
same_whole (pos m) (pos n) = nat_eq m n
same_whole (pos m) (negsuc n) = false
same_whole (negsuc m) (pos n) = false
same_whole (negsuc m) (negsuc n) = nat_eq m n

-- some value that passes the test
abbrev pub is_with : {A : Type 0} → (A → Bool) → Option A → Bool
is_with test None = false
is_with test (Some x) = test x

-- item by item
abbrev pub all_pass : List (Value → Bool) → List Value → Bool
all_pass [] [] = true
all_pass [] (v ∷ vs) = false
all_pass (test ∷ tests) [] = false
all_pass (test ∷ tests) (v ∷ vs) = test v && all_pass tests vs

-- pair by pair, in order
abbrev pub pairs_pass : List (List ℕ × (Value → Bool)) → List (List ℕ × Value) → Bool
pairs_pass [] [] = true
pairs_pass [] (p ∷ ps) = false
pairs_pass (test ∷ tests) [] = false
pairs_pass (test ∷ tests) (p ∷ ps) = (bytes_eq test.0 p.0 && test.1 p.1) && pairs_pass tests ps

-- one level, with tests for what is inside
abbrev pub identical_level : Value-F (Value → Bool) → Value → Bool
identical_level Value-F.Null value = is_null value
identical_level (Value-F.Bool truth) value = is_with (same_truth truth) (truth_value value)
identical_level (Value-F.Number number) value = is_with (same_whole number) (whole_number value)
identical_level (Value-F.String text) value = is_with (bytes_eq text) (string_text value)
identical_level (Value-F.Array tests) value = is_with (all_pass tests) (array_items value)
identical_level (Value-F.Object tests) value = is_with (pairs_pass tests) (object_members value)

abbrev pub is_identical : Value → Value → Bool
is_identical = fold-Value (Value → Bool) identical_level
