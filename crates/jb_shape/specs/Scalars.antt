-- Which values stand for truth values, whole numbers, texts and nothing.
use Rattle.std.specs.Prelude.{ℕ, ℤ, pos, negsuc, nat_le, Bool, List, Option, Some, None, Result, Ok, Err, if◌then◌else◌}
use Rattle.jb_tree.specs.declared.value.Value.{Value, out-Value}
use Rattle.jb_tree.specs.declared.value.Value.TheOpen.{Value-F}
use Rattle.jb_tree.specs.declared.value.Value.TheVariants as value_variant
use Rattle.jb_tree.specs.Value.{string_text, truth_value, is_null}
use Rattle.jb_shape.specs.declared.shape_error.ShapeError.{ShapeError}
use Rattle.jb_shape.specs.declared.shape_error.ShapeError.TheVariants.{WrongKind, NumberTooLarge}
use Rattle.jb_shape.specs.Outcome.{and_then}

-- what is there, else a value of another kind
abbrev pub of_kind : {A : Type 0} → Option A → Result A ShapeError
of_kind (Some found) = Ok found
of_kind None = Err WrongKind

abbrev pub number_at : Value-F Value → Option ℤ
number_at (Value-F.Number number) = Some number
number_at _ = None

abbrev pub number_of : Value → Result ℤ ShapeError
number_of value = of_kind (number_at (out-Value value))

-- a number from zero to the greatest of its type
abbrev pub unsigned_within : ℕ → ℤ → Result ℕ ShapeError
unsigned_within most (pos n) = if nat_le n most then Ok n else Err NumberTooLarge
unsigned_within most (negsuc n) = Err NumberTooLarge

-- a number whose type goes from the negative of one more than its greatest
abbrev pub signed_within : ℕ → ℤ → Result ℤ ShapeError
signed_within most (pos n) = if nat_le n most then Ok (pos n) else Err NumberTooLarge
signed_within most (negsuc n) = if nat_le n most then Ok (negsuc n) else Err NumberTooLarge

abbrev pub read_unsigned : ℕ → Value → Result ℕ ShapeError
read_unsigned most value = and_then (number_of value) (unsigned_within most)

abbrev pub read_signed : ℕ → Value → Result ℤ ShapeError
read_signed most value = and_then (number_of value) (signed_within most)

abbrev pub signed_value : ℤ → Result Value ShapeError
signed_value number = Ok (value_variant.Number number)

abbrev pub unsigned_value : ℕ → Result Value ShapeError
unsigned_value n = signed_value (pos n)

-- `()` is null
abbrev pub unit_value : Unit {0} → Result Value ShapeError
unit_value _ = Ok value_variant.Null

abbrev pub read_unit : Value → Result (Unit {0}) ShapeError
read_unit value = if is_null value then Ok tt else Err WrongKind

abbrev pub truth_value_of : Bool → Result Value ShapeError
truth_value_of truth = Ok (value_variant.Bool truth)

abbrev pub read_truth : Value → Result Bool ShapeError
read_truth value = of_kind (truth_value value)

abbrev pub text_value : List ℕ → Result Value ShapeError
text_value text = Ok (value_variant.String text)

abbrev pub read_text : Value → Result (List ℕ) ShapeError
read_text value = of_kind (string_text value)

-- null where there is nothing, else what is there
abbrev pub option_value : {T : Type 0} → (T → Result Value ShapeError) → Option T → Result Value ShapeError
option_value shape (Some x) = shape x
option_value shape None = Ok value_variant.Null

abbrev pub read_option : {T : Type 0} → (Value → Result T ShapeError) → Value → Result (Option T) ShapeError
read_option reading value = if is_null value then Ok None else and_then (reading value) (λ x. Ok (Some x))
