-- The longest front of some bytes that is UTF-8.
use Rattle.std.proofs.Common.{◌≡◌, ℕ, zero, suc, ◌+◌, ◌≤◌, Bool, true, false, cond, List, ◌++◌, length, take, refl, sym, subst, ◌∙◌, arith, length-append}
use Rattle.std.specs.Prelude.{encode_utf8, ◌-◌}
use Rattle.std.specs.Char.{IsScalar}
use Rattle.std.specs.Str.{IsUtf8, is_utf8}
use Rattle.std.specs.Str.Lossy.{utf8_valid_len, valid_len_up_to}
use Rattle.std.proofs.lemmas.Bool.{true≢false}
use Rattle.std.proofs.Math.Seq.{take-append-add}
use Rattle.std.proofs.lemmas.Str.{IsUtf8-nil, IsUtf8-append, IsUtf8-encode, IsUtf8-past_char, IsUtf8-from_is_utf8, is_utf8-from_IsUtf8, utf8_valid_len_le}

up_to_valid : (bs : List ℕ) (n : ℕ) → IsUtf8 (take (valid_len_up_to bs n) bs)
up_to_valid bs zero = IsUtf8-nil
up_to_valid bs (suc n) = by_test (up_to_valid bs n) (is_utf8 (take (suc n) bs)) refl
  where
    by_test : IsUtf8 (take (valid_len_up_to bs n) bs) → (t : Bool) → is_utf8 (take (suc n) bs) ≡ t → IsUtf8 (take (cond t (suc n) (valid_len_up_to bs n)) bs)
    by_test more true e = IsUtf8-from_is_utf8 (take (suc n) bs) e
    by_test more false e = more

one_less : (k n : ℕ) → k ≤ suc n → (k ≡ suc n → ⊥) → k ≤ n
one_less k n le differs = omega (arith, le, differs)

up_to_most : (bs : List ℕ) (n k : ℕ) → k ≤ n → IsUtf8 (take k bs) → k ≤ valid_len_up_to bs n
up_to_most bs zero k le text = le
up_to_most bs (suc n) k le text = by_test (λ less. up_to_most bs n k less text) (is_utf8 (take (suc n) bs)) refl
  where
    differs : is_utf8 (take (suc n) bs) ≡ false → k ≡ suc n → ⊥
    differs e same = true≢false (sym (is_utf8-from_IsUtf8 (take (suc n) bs) (subst (λ (m : ℕ). IsUtf8 (take m bs)) same text)) ∙ e)

    by_test : (k ≤ n → k ≤ valid_len_up_to bs n) → (t : Bool) → is_utf8 (take (suc n) bs) ≡ t → k ≤ cond t (suc n) (valid_len_up_to bs n)
    by_test more true e = le
    by_test more false e = more (one_less k n le (differs e))

pub valid_front : (bs : List ℕ) → IsUtf8 (take (utf8_valid_len bs) bs)
unfolding utf8_valid_len
valid_front bs = up_to_valid bs (length bs)

pub longest_front : (bs : List ℕ) (k : ℕ) → k ≤ length bs → IsUtf8 (take k bs) → k ≤ utf8_valid_len bs
unfolding utf8_valid_len
longest_front bs k le text = up_to_most bs (length bs) k le text

-- a character before other bytes adds its length
pub valid_past_character : (c : ℕ) (bs : List ℕ) → IsScalar c → utf8_valid_len (encode_utf8 c ++ bs) ≡ length (encode_utf8 c) + utf8_valid_len bs
valid_past_character c bs scalar = same (utf8_valid_len (encode_utf8 c ++ bs)) (length (encode_utf8 c)) (utf8_valid_len bs) first least most
  where
    same : (w l v : ℕ) → l ≤ w → l + v ≤ w → (l ≤ w → w ≤ l + v) → w ≡ l + v
    same w l v first least most = let le : w ≤ l + v = most first in omega arith

    take_past : (k : ℕ) → take (length (encode_utf8 c) + k) (encode_utf8 c ++ bs) ≡ encode_utf8 c ++ take k bs
    take_past k = take-append-add (encode_utf8 c) bs k

    with_front : (k : ℕ) → k ≤ length bs → IsUtf8 (take k bs) → length (encode_utf8 c) + k ≤ utf8_valid_len (encode_utf8 c ++ bs)
    with_front k le text = longest_front (encode_utf8 c ++ bs) (length (encode_utf8 c) + k) (omega (arith, le, length-append (encode_utf8 c) bs))
        (subst IsUtf8 (sym (take_past k)) (IsUtf8-append (encode_utf8 c) (take k bs) (IsUtf8-encode c scalar) text))

    first : length (encode_utf8 c) ≤ utf8_valid_len (encode_utf8 c ++ bs)
    first = omega (arith, with_front 0 (omega arith) IsUtf8-nil)

    least : length (encode_utf8 c) + utf8_valid_len bs ≤ utf8_valid_len (encode_utf8 c ++ bs)
    least = with_front (utf8_valid_len bs) (utf8_valid_len_le bs) (valid_front bs)

    most : length (encode_utf8 c) ≤ utf8_valid_len (encode_utf8 c ++ bs) → utf8_valid_len (encode_utf8 c ++ bs) ≤ length (encode_utf8 c) + utf8_valid_len bs
    most le =
        let w = utf8_valid_len (encode_utf8 c ++ bs) in
        let k = w - length (encode_utf8 c) in
        let whole : length (encode_utf8 c) + k ≡ w = omega (arith, le) in
        let text : IsUtf8 (encode_utf8 c ++ take k bs) = subst IsUtf8 (take_past k) (subst (λ (n : ℕ). IsUtf8 (take n (encode_utf8 c ++ bs))) (sym whole) (valid_front (encode_utf8 c ++ bs))) in
        let within : w ≤ length (encode_utf8 c ++ bs) = utf8_valid_len_le (encode_utf8 c ++ bs) in
        let fits : k ≤ length bs = omega (arith, within, length-append (encode_utf8 c) bs, whole) in
        let rest : k ≤ utf8_valid_len bs = longest_front bs k fits (IsUtf8-past_char (encode_utf8 c ++ take k bs) (take k bs) c text refl) in
        omega (arith, rest, whole)
