-- The text of a key is read as it.
use Rattle.std.proofs.Common.{◌≡◌, ◌≢◌, ◌≤◌, ◌<◌, ◌^◌, ◌==◌, ℕ, ℤ, pos, negsuc, suc}
use Rattle.std.proofs.Common.{nat_lt, length, get_or, true, false, Ok, arith, rules}
use Rattle.std.specs.Char.{is_ascii_digit}
use Rattle.std.specs.Fmt.{decimal}
use Rattle.std.specs.List.{list_all}
use Rattle.std.specs.Str.Parse.{digits_value, without_leading_plus, starts_with_minus}
use Rattle.std.proofs.lemmas.Bool.Decides.{nat_tests}
use Rattle.std.proofs.lemmas.Fmt.{decimal_nonempty, digits_decimal, digits_value-decimal}
use Rattle.std.proofs.lemmas.Str.Parse.{IsNumeralModel, numerals_by_value, not_in_digits, without_leading_plus_none}
use Rattle.jb_shape.specs.Outcome.{and_then}
use Rattle.jb_text.specs.Numeral.{is_numeral}
use Rattle.jb_shape.specs.Keys.{unsigned_key, signed_key, unsigned_text, signed_text}
use Rattle.jb_shape.specs.Faithful.{IsSigned}
use Rattle.jb_shape.specs.Back.{fits_unsigned, fits_signed}

own : IsNumeralModel (λ digits. list_all is_ascii_digit digits ≡ true) (digits_value 10)
own = numerals_by_value (λ digits. list_all is_ascii_digit digits ≡ true) (search rules)

not_first : (n c : ℕ) → n < 2 ^ 64 → c < 48 → get_or (decimal n) 0 0 ≢ c
not_first n c h low = not_in_digits own (decimal n) c (digits_decimal own n h) (λ r. omega (arith, r)) 0 (decimal_nonempty n h)

plain : (n : ℕ) → n < 2 ^ 64 → without_leading_plus (decimal n) ≡ decimal n
plain n h = without_leading_plus_none (decimal n) (not_first n 43 h (omega arith))

positive : (n : ℕ) → 0 < n → nat_lt 0 n ≡ true
positive n h = grind (arith, nat_tests)

numeral : (n : ℕ) → n < 2 ^ 64 → is_numeral (decimal n) ≡ true
numeral n h =
    let some : nat_lt 0 (length (decimal n)) ≡ true = positive (length (decimal n)) (decimal_nonempty n h) in
    let digits : list_all is_ascii_digit (decimal n) ≡ true = digits_decimal own n h in
    rw (some, digits)

pub unsigned_key_back : (most n : ℕ) → most < 2 ^ 64 → n ≤ most → and_then (unsigned_text n) (unsigned_key most) ≡ Ok n
unsigned_key_back most n wide h =
    let small : n < 2 ^ 64 = omega arith in
    rw (plain n small, numeral n small, digits_value-decimal own n small) (fits_unsigned most n h)

differs : (a b : ℕ) → a ≢ b → (a == b) ≡ false
differs a b h = grind (arith, nat_tests)

no_minus : (n : ℕ) → n < 2 ^ 64 → starts_with_minus (decimal n) ≡ false
no_minus n h = differs (get_or (decimal n) 0 0) 45 (not_first n 45 h (omega arith))

pub signed_key_back : (most : ℕ) (z : ℤ) → most < 2 ^ 63 → IsSigned most z → and_then (signed_text z) (signed_key most) ≡ Ok z
signed_key_back most (pos n) wide h =
    let small : n < 2 ^ 64 = omega arith in
    rw (no_minus n small, plain n small, numeral n small, digits_value-decimal own n small) (fits_signed most (pos n) h)
signed_key_back most (negsuc n) wide h =
    let small : suc n < 2 ^ 64 = omega arith in
    rw (numeral (suc n) small, digits_value-decimal own (suc n) small) (fits_signed most (negsuc n) h)
