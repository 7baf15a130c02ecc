-- Digits that write a number are what the standard library reads as one.
use Rattle.std.proofs.Common.{◌≡◌, ◌<◌, ◌&&◌, ℕ, List, length, Bool, true, false, nat_lt, refl, arith, rules}
use Rattle.std.proofs.lemmas.Bool.Decides.{nat_tests}
use Rattle.std.proofs.lemmas.Str.Parse.{IsNumeralModel, numerals_by_value}
use Rattle.std.specs.Char.{is_ascii_digit}
use Rattle.std.specs.List.{list_all}
use Rattle.std.specs.Str.Parse.{IsNumeral, digits_value}
use Rattle.jb_text.specs.Numeral.{is_numeral}

own : IsNumeralModel (λ digits. list_all is_ascii_digit digits ≡ true) (digits_value 10)
own = numerals_by_value (λ digits. list_all is_ascii_digit digits ≡ true) (search rules)

both_true : (a b : Bool) → (a && b) ≡ true → (a ≡ true) × (b ≡ true)
both_true true true h = (refl, refl)
both_true true false h = cc
both_true false b h = cc

some : (n : ℕ) → nat_lt 0 n ≡ true → 0 < n
some n h = grind (arith, nat_tests)

pub numeral_is : (digits : List ℕ) → is_numeral digits ≡ true → IsNumeral 10 digits
numeral_is digits h =
    let parts = both_true (nat_lt 0 (length digits)) (list_all is_ascii_digit digits) h in
    (some (length digits) parts.0, own.to digits parts.1)
