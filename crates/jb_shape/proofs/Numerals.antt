-- Digits that are read as a number, and one that is too large.
use Rattle.std.proofs.Common.{◌≡◌, ◌<◌, ◌^◌, ℕ, ℤ, pos, negsuc, List, true, Err, FitsSigned, w64, arith}
use Rattle.std.proofs.lemmas.Bool.Decides.{nat_tests}
use Rattle.std.specs.Str.Parse.{IsNumeral, digits_value, signed_digits_value, without_leading_plus, without_leading_sign}
use Rattle.jb_shape.specs.declared.shape_error.ShapeError.TheVariants.{NumberTooLarge}
use Rattle.jb_text.specs.Numeral.{is_numeral}
use Rattle.jb_text.proofs.Numerals.{numeral_is}
use Rattle.jb_shape.specs.Keys.{unsigned_key, signed_key}
use Rattle.jb_shape.specs.Scalars.{unsigned_within, signed_within}

past : (most n : ℕ) → most < n → Err NumberTooLarge ≡ unsigned_within most (pos n)
past most n h = grind (arith, nat_tests)

pub unsigned_large : (most : ℕ) (key : List ℕ) → most < 2 ^ 64 → is_numeral (without_leading_plus key) ≡ true
    → ((IsNumeral 10 (without_leading_plus key) × (digits_value 10 (without_leading_plus key) < 2 ^ 64)) → ⊥) → Err NumberTooLarge ≡ unsigned_key most key
unsigned_large most key fits numeral outside =
    let digits = without_leading_plus key in
    let large : (digits_value 10 digits < 2 ^ 64) → ⊥ = λ small. outside (numeral_is digits numeral, small) in
    rw numeral (past most (digits_value 10 digits) (omega arith))

past_signed : (most : ℕ) (z : ℤ) → most < 2 ^ 63 → (FitsSigned w64 z → ⊥) → Err NumberTooLarge ≡ signed_within most z
past_signed most (pos n) fits outside =
    let beyond : (n < 2 ^ 63) → ⊥ = λ small. outside (record { sfits = small }) in
    let large : most < n = omega arith in
    grind (arith, nat_tests)
past_signed most (negsuc n) fits outside =
    let beyond : (n < 2 ^ 63) → ⊥ = λ small. outside (record { sfits = small }) in
    let large : most < n = omega arith in
    grind (arith, nat_tests)

pub signed_large : (most : ℕ) (key : List ℕ) → most < 2 ^ 63 → is_numeral (without_leading_sign key) ≡ true
    → ((IsNumeral 10 (without_leading_sign key) × FitsSigned w64 (signed_digits_value 10 key)) → ⊥) → Err NumberTooLarge ≡ signed_key most key
signed_large most key fits numeral outside =
    rw numeral (past_signed most (signed_digits_value 10 key) fits (λ small. outside (numeral_is (without_leading_sign key) numeral, small)))
