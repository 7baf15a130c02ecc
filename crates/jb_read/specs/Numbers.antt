-- Numbers: -?(0|[1-9][0-9]*), whole ones from -2^63 to 2^64-1 (RFC 8259, section 6, without fractions and exponents).
use Rattle.std.specs.Prelude.{ℕ, ◌+◌, ◌-◌, ◌*◌, ◌^◌, ℤ, pos, neg_ℤ, Bool, true, false, ◌&&◌, ◌||◌, ◌==◌, nat_lt}
use Rattle.std.specs.Prelude.{nat_le, if◌then◌else◌, List, [], ◌∷◌, drop, Option, Some, None, Result, Ok}
use Rattle.jb_read.specs.declared.fault.Broken.{Broken}
use Rattle.jb_read.specs.declared.fault.FaultKind.TheVariants.{Syntax, Float, NumberRange}
use Rattle.jb_read.specs.Bytes.{is_digit, begins}
use Rattle.jb_read.specs.Reading.{fails, ◌>>=◌}

-- the number that the digits at the front spell behind those of n, and what is left
abbrev pub digits_from : ℕ → List ℕ → ℕ × List ℕ
digits_from n [] = (n, [])
digits_from n (b ∷ bs) = if is_digit b then digits_from (10 * n + (b - 48)) bs else (n, b ∷ bs)

-- the digits of a number: a zero alone, or digits that don't begin with zero
unfoldable pub whole_part_at : List ℕ → Result (ℕ × List ℕ) Broken
whole_part_at [] = fails Syntax []
whole_part_at (b ∷ at) = if b == 48
    then (if begins is_digit at then fails Syntax at else Ok (0, at))
    else (if is_digit b then Ok (digits_from 0 (b ∷ at)) else fails Syntax (b ∷ at))

-- the number of a sign and a magnitude, where it is one of -2^63 to 2^64-1
abbrev pub number_of : Bool → ℕ → Option ℤ
number_of false n = if nat_lt n (2 ^ 64) then Some (pos n) else None
number_of true n = if nat_le n (2 ^ 63) then Some (neg_ℤ (pos n)) else None

abbrev pub is_minus : ℕ → Bool
is_minus b = b == 45

-- what makes a number one with a fraction or an exponent
abbrev pub is_mark : ℕ → Bool
is_mark b = (b == 46) || (b == 101) || (b == 69)

-- the number of this sign whose digits were read, or the fault of a number that stands at its first byte
abbrev pub checked_number : List ℕ → Bool → ℕ × List ℕ → Result (ℤ × List ℕ) Broken
checked_number start minus read = if begins is_mark read.1 || (minus && (read.0 == 0)) then fails Float start
    else elim (number_of minus read.0) [ None ↦ fails NumberRange start | Some z ↦ Ok (z, read.1) ]

unfoldable pub number_at : List ℕ → Result (ℤ × List ℕ) Broken
number_at at = if begins is_minus at
    then whole_part_at (drop 1 at) >>= checked_number at true
    else whole_part_at at >>= checked_number at false
