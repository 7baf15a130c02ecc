-- The plain part of a string.
use Rattle.std.proofs.Common.{◌≡◌, ℕ, zero, suc, ◌+◌, ◌≤◌, true, false, not, List, [], ◌∷◌, length, take, drop, Option, Some, Ok, Err, refl, sym, ap, ◌∙◌, arith}
use Rattle.std.specs.Prelude.{slice_get, is_none, ◌&&◌, ◌==◌}
use Rattle.std.proofs.lemmas.Bool.{eqb-true, and_parts, false_from_ne_true}
use Rattle.std.proofs.lemmas.List.{length-drop, length-take, drop-drop}
use Rattle.std.specs.Str.Lossy.{utf8_valid_len, utf8_error_len}
use Rattle.std.specs.List.{prefix_len}
use Rattle.std.proofs.lemmas.Bool.Decides.{nat_tests}
use Rattle.jb_text.specs.Plain.{is_plain}
use Rattle.std.proofs.lemmas.List.Sums.{prefix_len-le-length}
use Rattle.std.specs.Str.{IsUtf8, is_utf8}
use Rattle.std.proofs.lemmas.Str.{is_utf8-from_IsUtf8, IsUtf8-from_is_utf8}
use Rattle.jb_read.specs.bridge.Bytes.{first}
use Rattle.jb_read.specs.declared.fault.Broken.{Broken}
use Rattle.jb_read.specs.declared.fault.FaultKind.TheVariants.{Syntax}
use Rattle.jb_read.specs.Reading.{broken}
use Rattle.jb_read.specs.Strings.{is_special, plain_length, plain_front, behind_plain, ill_formed_at, run_at, piece_at, piece_end, text_at}
use Rattle.jb_read.proofs.Turns.{Goes, Goes-start}

-- a byte stands for itself exactly where it is no quote, no backslash and no control
pub plain_prefix : (bytes : List ℕ) → prefix_len is_plain bytes ≡ plain_length bytes
plain_prefix [] = refl
plain_prefix (b ∷ bytes) = let same : is_plain b ≡ not (is_special b) = grind (arith, nat_tests) in rw (same, plain_prefix bytes) refl

pub plain_within : (bytes : List ℕ) → plain_length bytes ≤ length bytes
plain_within bytes = prefix_len-le-length (λ x. not (is_special x)) bytes

pub run_at_text : (at : List ℕ) → IsUtf8 (plain_front at) → run_at at ≡ Ok (plain_front at, behind_plain at)
unfolding run_at
run_at_text at text =
    let valid : is_utf8 (plain_front at) ≡ true = is_utf8-from_IsUtf8 (plain_front at) text in
    rw valid refl

-- the same of what was cut out and of what is left
pub run_is_text : (at front rest text : List ℕ) (n : ℕ) → n ≡ plain_length at → front ≡ take n at → IsUtf8 front → text ≡ front → rest ≡ drop (length front) at → run_at at ≡ Ok (text, rest)
run_is_text at front rest text n n-is front-is valid text-is rest-is =
    let within : plain_length at ≤ length at = prefix_len-le-length (λ x. not (is_special x)) at in
    let front' : front ≡ plain_front at = front-is ∙ ap (λ (k : ℕ). take k at) n-is in
    let len : length front ≡ plain_length at = omega (arith, ap length front', length-take (plain_length at) at) in
    let rest' : rest ≡ behind_plain at = rest-is ∙ ap (λ (k : ℕ). drop k at) len in
    run_at_text at (rw (← front') valid) ∙ rw (text-is, front', rest') refl

run_at_broken : (at : List ℕ) → (IsUtf8 (plain_front at) → ⊥) → run_at at ≡ Err (broken Syntax (ill_formed_at at))
unfolding run_at
run_at_broken at no_text =
    let invalid : is_utf8 (plain_front at) ≡ false = false_from_ne_true (is_utf8 (plain_front at)) (λ e. no_text (IsUtf8-from_is_utf8 (plain_front at) e)) in
    rw invalid refl

same_place : (at rest : List ℕ) → length at ≡ length rest → broken Syntax at ≡ broken Syntax rest
same_place at rest e = ap (λ (n : ℕ). record { kind = Syntax; left = n }) e

-- a run of plain bytes that is no text, and that the end of the text cuts off
pub run_cut_off : (at front behind rest : List ℕ) (n valid : ℕ) (len : Option ℕ) → n ≡ plain_length at → front ≡ take n at → behind ≡ drop n at → (IsUtf8 front → ⊥)
    → valid ≡ utf8_valid_len front → len ≡ utf8_error_len (drop valid front) → ((length behind == 0) && is_none len) ≡ true → rest ≡ drop (length front) at → run_at at ≡ Err (broken Syntax rest)
run_cut_off at front behind rest n valid len n-is front-is behind-is no_text valid-is len-is cut rest-is =
    let front' : front ≡ plain_front at = front-is ∙ ap (λ (k : ℕ). take k at) n-is in
    let behind' : behind ≡ behind_plain at = behind-is ∙ ap (λ (k : ℕ). drop k at) n-is in
    let valid' : valid ≡ utf8_valid_len (plain_front at) = valid-is ∙ ap utf8_valid_len front' in
    let len' : len ≡ utf8_error_len (drop (utf8_valid_len (plain_front at)) (plain_front at)) = cc in
    let cut' : ((length (behind_plain at) == 0) && is_none (utf8_error_len (drop (utf8_valid_len (plain_front at)) (plain_front at)))) ≡ true = rw (← behind', ← len') cut in
    let none : length behind ≡ 0 = eqb-true _ _ (and_parts _ _ cut).0 in
    let ended : length rest ≡ 0 = omega (arith, ap length rest-is, ap length behind-is, ap length front-is, length-drop (length front) at, length-drop n at, length-take n at) in
    let place : broken Syntax (ill_formed_at at) ≡ broken Syntax rest = rw cut' (same_place [] rest (sym ended)) in
    run_at_broken at (rw (← front') no_text) ∙ ap (λ (e : Broken). Err e) place

-- the same where a sequence in it is ill-formed, whatever follows
pub run_ill_formed : (at front behind rest : List ℕ) (n valid : ℕ) (len : Option ℕ) → n ≡ plain_length at → front ≡ take n at → behind ≡ drop n at → (IsUtf8 front → ⊥)
    → valid ≡ utf8_valid_len front → len ≡ utf8_error_len (drop valid front) → ((length behind == 0) && is_none len) ≡ false → rest ≡ drop valid at → run_at at ≡ Err (broken Syntax rest)
run_ill_formed at front behind rest n valid len n-is front-is behind-is no_text valid-is len-is cut rest-is =
    let front' : front ≡ plain_front at = front-is ∙ ap (λ (k : ℕ). take k at) n-is in
    let behind' : behind ≡ behind_plain at = behind-is ∙ ap (λ (k : ℕ). drop k at) n-is in
    let valid' : valid ≡ utf8_valid_len (plain_front at) = valid-is ∙ ap utf8_valid_len front' in
    let len' : len ≡ utf8_error_len (drop (utf8_valid_len (plain_front at)) (plain_front at)) = cc in
    let cut' : ((length (behind_plain at) == 0) && is_none (utf8_error_len (drop (utf8_valid_len (plain_front at)) (plain_front at)))) ≡ false = rw (← behind', ← len') cut in
    let place : broken Syntax (ill_formed_at at) ≡ broken Syntax rest = rw (cut', rest-is, valid') refl in
    run_at_broken at (rw (← front') no_text) ∙ ap (λ (e : Broken). Err e) place

pub piece_end_quote : (made rest : List ℕ) → first rest ≡ Some 34 → piece_end made rest ≡ Ok ((false, made), drop 1 rest)
unfolding piece_end
piece_end_quote made [] e = absurd cc
piece_end_quote made (b ∷ rest) e = let same : b ≡ 34 = cc in rw same refl

text_at_plain : (at : List ℕ) → IsUtf8 (plain_front at) → first (behind_plain at) ≡ Some 34 → text_at at ≡ Ok (plain_front at, drop 1 (behind_plain at))
unfolding text_at piece_at
text_at_plain at text quote = rw (run_at_text at text, piece_end_quote (plain_front at) (behind_plain at) quote) refl

first-drop : (n : ℕ) (at : List ℕ) → first (drop n at) ≡ slice_get at n
first-drop zero at = refl
first-drop (suc n) [] = refl
first-drop (suc n) (b ∷ at) = first-drop n at

-- a string whose first byte that isn't plain is the quote
pub text_is_plain : (at text rest : List ℕ) (n : ℕ) → n ≡ plain_length at → text ≡ take n at → IsUtf8 (take n at) → slice_get at n ≡ Some 34 → rest ≡ drop (n + 1) at → text_at at ≡ Ok (text, rest)
text_is_plain at text rest n n-is text-is valid quote rest-is =
    let text' : text ≡ plain_front at = text-is ∙ ap (λ (k : ℕ). take k at) n-is in
    let rest' : rest ≡ drop 1 (behind_plain at) = rest-is ∙ ap (λ (k : ℕ). drop (k + 1) at) n-is ∙ sym (drop-drop 1 (plain_length at) at) in
    let quote' : first (behind_plain at) ≡ Some 34 = first-drop (plain_length at) at ∙ ap (λ (k : ℕ). slice_get at k) (sym n-is) ∙ quote in
    text_at_plain at (rw (← n-is) valid) quote' ∙ rw (text', rest') refl

-- a string goes by its pieces
pub Goes-text : (at : List ℕ) → Goes piece_at [] at (text_at at)
unfolding text_at
Goes-text at = Goes-start piece_at [] at
