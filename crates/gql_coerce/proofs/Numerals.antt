-- Digits that write a number that is too large.
use Rattle.std.proofs.Common.{◌≡◌, ◌<◌, ◌≤◌, ◌^◌, ℕ, ℤ, pos, negsuc, List, true, None, FitsSigned, w64, arith}
use Rattle.std.proofs.lemmas.Bool.Decides.{nat_tests}
use Rattle.std.specs.Str.Parse.{IsNumeral, digits_value, signed_digits_value, without_leading_plus, without_leading_sign}
use Rattle.jb_text.specs.Numeral.{is_numeral}
use Rattle.jb_text.proofs.Numerals.{numeral_is}
use Rattle.gql_coerce.specs.Translation.{signed_within, unsigned_within}

past : (n : ℕ) → 2 ^ 64 ≤ n → None ≡ unsigned_within n
past n h = grind (arith, nat_tests)

pub unsigned_large : (text : List ℕ) → is_numeral (without_leading_plus text) ≡ true
    → ((IsNumeral 10 (without_leading_plus text) × (digits_value 10 (without_leading_plus text) < 2 ^ 64)) → ⊥) → None ≡ unsigned_within (digits_value 10 (without_leading_plus text))
unsigned_large text numeral outside =
    let digits = without_leading_plus text in
    let large : (digits_value 10 digits < 2 ^ 64) → ⊥ = λ small. outside (numeral_is digits numeral, small) in
    past (digits_value 10 digits) (omega arith)

past_signed : (z : ℤ) → (FitsSigned w64 z → ⊥) → None ≡ signed_within z
past_signed (pos n) outside =
    let beyond : (n < 2 ^ 63) → ⊥ = λ small. outside (record { sfits = small }) in
    grind (arith, nat_tests)
past_signed (negsuc n) outside =
    let beyond : (n < 2 ^ 63) → ⊥ = λ small. outside (record { sfits = small }) in
    grind (arith, nat_tests)

pub signed_large : (text : List ℕ) → is_numeral (without_leading_sign text) ≡ true
    → ((IsNumeral 10 (without_leading_sign text) × FitsSigned w64 (signed_digits_value 10 text)) → ⊥) → None ≡ signed_within (signed_digits_value 10 text)
signed_large text numeral outside = past_signed (signed_digits_value 10 text) (λ small. outside (numeral_is (without_leading_sign text) numeral, small))
