-- ASCII at the front of a string.
use Rattle.std.proofs.Common.{◌≡◌, ℕ, zero, suc, ◌+◌, ◌-◌, ◌≤◌, true, false, List, [], ◌∷◌, length, take, drop, Some, Ok, refl, arith}
use Rattle.std.specs.Prelude.{slice_get}
use Rattle.std.specs.List.{list_all}
use Rattle.std.specs.Str.{IsUtf8, IsAscii}
use Rattle.std.proofs.lemmas.Bool.{and_parts}
use Rattle.std.proofs.lemmas.Bool.Decides.{nat_tests}
use Rattle.std.proofs.lemmas.Str.{IsUtf8-from_ascii}
use Rattle.std.proofs.lemmas.Str.Ascii.{IsAscii-nil}
use Rattle.std.proofs.lemmas.List.{take-take, take_all, length-drop}
use Rattle.jb_read.specs.Strings.{is_special, plain_length, text_at}
use Rattle.jb_read.specs.bridge.Strings.{is_plain_ascii}
use Rattle.jb_read.proofs.Plain.{text_is_plain}

-- what passes behind what passes
pub ascii_on : (bytes : List ℕ) (n m k : ℕ) → k ≡ n + m → list_all is_plain_ascii (take n bytes) ≡ true → list_all is_plain_ascii (take m (drop n bytes)) ≡ true → list_all is_plain_ascii (take k bytes) ≡ true
ascii_on bytes zero m k sum first next = let same : k ≡ m = omega (arith, sum) in rw same next
ascii_on bytes (suc n) m zero sum first next = refl
ascii_on [] (suc n) m (suc k) sum first next = refl
ascii_on (b ∷ bytes) (suc n) m (suc k) sum first next =
    let parts = and_parts (is_plain_ascii b) (list_all is_plain_ascii (take n bytes)) first in
    let rest : list_all is_plain_ascii (take k bytes) ≡ true = ascii_on bytes n m k (omega (arith, sum)) parts.1 next in
    rw (parts.0, rest) refl

-- the same where the rest was cut to its end
pub ascii_then : (bytes : List ℕ) (n m : ℕ) → list_all is_plain_ascii (take n bytes) ≡ true → list_all is_plain_ascii (take m (take (length bytes - n) (drop n bytes))) ≡ true → list_all is_plain_ascii (take (n + m) bytes) ≡ true
ascii_then bytes n m first next =
    let whole : take (length bytes - n) (drop n bytes) ≡ drop n bytes = take_all (length bytes - n) (drop n bytes) (omega (arith, length-drop n bytes)) in
    let next' : list_all is_plain_ascii (take m (drop n bytes)) ≡ true = rw (← whole) next in
    ascii_on bytes n m (n + m) refl first next'

-- what passes in a beginning
pub ascii_within : (bytes : List ℕ) (n m : ℕ) → n ≤ m → list_all is_plain_ascii (take n (take m bytes)) ≡ true → list_all is_plain_ascii (take n bytes) ≡ true
ascii_within bytes n m order pass = rw (← take-take n m bytes order) pass

are_ascii : (bytes : List ℕ) → list_all is_plain_ascii bytes ≡ true → IsAscii bytes
are_ascii [] pass i = IsAscii-nil i
are_ascii (b ∷ bytes) pass zero = let low : is_plain_ascii b ≡ true = (and_parts (is_plain_ascii b) (list_all is_plain_ascii bytes) pass).0 in grind (arith, nat_tests)
are_ascii (b ∷ bytes) pass (suc i) = are_ascii bytes (and_parts (is_plain_ascii b) (list_all is_plain_ascii bytes) pass).1 i

-- ASCII is UTF-8
pub ascii_is_text : (bytes : List ℕ) → list_all is_plain_ascii bytes ≡ true → IsUtf8 bytes
ascii_is_text bytes pass = IsUtf8-from_ascii bytes (are_ascii bytes pass)

plain_to_quote : (at : List ℕ) (n : ℕ) → list_all is_plain_ascii (take n at) ≡ true → slice_get at n ≡ Some 34 → n ≡ plain_length at
plain_to_quote [] n pass quote = absurd cc
plain_to_quote (b ∷ at) zero pass quote = let same : b ≡ 34 = cc in rw same refl
plain_to_quote (b ∷ at) (suc n) pass quote =
    let parts = and_parts (is_plain_ascii b) (list_all is_plain_ascii (take n at)) pass in
    let low : is_plain_ascii b ≡ true = parts.0 in
    let plain : is_special b ≡ false = grind (arith, nat_tests) in
    rw (plain, ← plain_to_quote at n parts.1 quote) (omega arith)

-- a string of ASCII without an escape
pub text_is_ascii : (at text rest : List ℕ) (n : ℕ) → list_all is_plain_ascii (take n at) ≡ true → text ≡ take n at → slice_get at n ≡ Some 34 → rest ≡ drop (n + 1) at → text_at at ≡ Ok (text, rest)
text_is_ascii at text rest n pass text-is quote rest-is =
    text_is_plain at text rest n (plain_to_quote at n pass quote) text-is (ascii_is_text (take n at) pass) quote rest-is
