-- Which texts stand for keys.
use Rattle.std.specs.Prelude.{ℕ, ℤ, pos, Bool, List, Result, Ok, Err, if◌then◌else◌}
use Rattle.std.specs.Fmt.{decimal, signed_decimal}
use Rattle.std.specs.Str.Parse.{digits_value, signed_digits_value, without_leading_plus, without_leading_sign}
use Rattle.jb_text.specs.Numeral.{is_numeral}
use Rattle.jb_shape.specs.declared.shape_error.ShapeError.{ShapeError}
use Rattle.jb_shape.specs.declared.shape_error.ShapeError.TheVariants.{WrongKind, KeyNotText}
use Rattle.jb_shape.specs.Scalars.{unsigned_within, signed_within}

abbrev pub no_key_text : Bool → Result (List ℕ) ShapeError
no_key_text _ = Err KeyNotText

abbrev pub no_key : List ℕ → Result Bool ShapeError
no_key _ = Err KeyNotText

-- digits behind a plus or alone
abbrev pub unsigned_key : ℕ → List ℕ → Result ℕ ShapeError
unsigned_key most key =
    if is_numeral (without_leading_plus key) then unsigned_within most (pos (digits_value 10 (without_leading_plus key))) else Err WrongKind

-- digits behind a plus or a minus or alone
abbrev pub signed_key : ℕ → List ℕ → Result ℤ ShapeError
signed_key most key =
    if is_numeral (without_leading_sign key) then signed_within most (signed_digits_value 10 key) else Err WrongKind

abbrev pub unsigned_text : ℕ → Result (List ℕ) ShapeError
unsigned_text n = Ok (decimal n)

abbrev pub signed_text : ℤ → Result (List ℕ) ShapeError
signed_text number = Ok (signed_decimal number)
