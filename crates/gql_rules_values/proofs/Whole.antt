-- Whole numbers of 32 bits.
use Rattle.std.proofs.Common.{◌≡◌, ◌<◌, ◌^◌, ◌&&◌, ℕ, ℤ, pos, negsuc, List, length, Bool, true, false, FitsSigned, w32, nat_lt, refl, arith, rules}
use Rattle.std.proofs.lemmas.Bool.Decides.{nat_tests}
use Rattle.std.proofs.lemmas.Str.Parse.{IsNumeralModel, numerals_by_value}
use Rattle.std.specs.Char.{is_ascii_digit}
use Rattle.std.specs.List.{list_all}
use Rattle.std.specs.Str.Parse.{IsNumeral, digits_value, signed_digits_value, without_leading_sign}
use Rattle.gql_rules_values.specs.IntCoercionError.{within_32_bits, is_32_bits}

own : IsNumeralModel (λ digits. list_all is_ascii_digit digits ≡ true) (digits_value 10)
own = numerals_by_value (λ digits. list_all is_ascii_digit digits ≡ true) (search rules)

both_true : (a b : Bool) → (a && b) ≡ true → (a ≡ true) × (b ≡ true)
both_true true true h = (refl, refl)
both_true true false h = absurd cc
both_true false b h = absurd cc

not_true : (b : Bool) → (b ≡ true → ⊥) → b ≡ false
not_true true h = absurd (h refl)
not_true false h = refl

within : (z : ℤ) → within_32_bits z ≡ true → FitsSigned w32 z
within (pos n) h = record { sfits = grind (arith, nat_tests) }
within (negsuc n) h = record { sfits = grind (arith, nat_tests) }

below : (n k : ℕ) → n < k → nat_lt n k ≡ true
below n k h = grind (arith, nat_tests)

fits : (z : ℤ) → FitsSigned w32 z → within_32_bits z ≡ true
fits (pos n) h = below n (2 ^ 31) h.sfits
fits (negsuc n) h = below n (2 ^ 31) h.sfits

some : (n : ℕ) → nat_lt 0 n ≡ true → 0 < n
some n h = grind (arith, nat_tests)

pub is_whole : (text : List ℕ) → IsNumeral 10 (without_leading_sign text) × FitsSigned w32 (signed_digits_value 10 text) → is_32_bits text ≡ true
is_whole text h =
    let digits = without_leading_sign text in
    λ i. (below 0 (length digits) h.0.0 i && own.from digits h.0.1 i) && fits (signed_digits_value 10 text) h.1 i

pub is_not_whole : (text : List ℕ) → ((IsNumeral 10 (without_leading_sign text) × FitsSigned w32 (signed_digits_value 10 text)) → ⊥) → is_32_bits text ≡ false
is_not_whole text outside =
    let digits = without_leading_sign text in
    not_true (is_32_bits text) (λ yes.
    let parts = both_true (nat_lt 0 (length digits) && list_all is_ascii_digit digits) (within_32_bits (signed_digits_value 10 text)) yes in
    let numeral = both_true (nat_lt 0 (length digits)) (list_all is_ascii_digit digits) parts.0 in
    outside ((some (length digits) numeral.0, own.to digits numeral.1), within (signed_digits_value 10 text) parts.1))
