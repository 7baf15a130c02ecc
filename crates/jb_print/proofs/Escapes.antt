-- What the printing of a text rests on: plain bytes stand for themselves, and the others have an escape.
use Rattle.std.proofs.Common.{◌≡◌, ◌≢◌, ℕ, suc, ◌+◌, ◌<◌, Bool, true, false, cond, List, [], ◌∷◌, ◌++◌, length, take, drop, get_or, None, refl, ap, ◌∙◌, arith}
use Rattle.std.specs.List.{flat_map, prefix_len}
use Rattle.std.specs.Str.{IsUtf8, IsCharBoundary}
use Rattle.std.proofs.lemmas.Bool.Decides.{nat_tests}
use Rattle.std.proofs.lemmas.List.Sums.{prefix_len-le-length, prefix_len_stops}
use Rattle.std.proofs.lemmas.Str.{IsCharBoundary-after_ascii}
use Rattle.std.proofs.lemmas.List.{drop_more, drop_all, append-nil}
use Rattle.jb_print.specs.Quoted.{short_escape, escaped}
use Rattle.jb_text.specs.Plain.{is_plain}

pub escaped-plain : (byte : ℕ) → is_plain byte ≡ true → escaped byte ≡ byte ∷ []
unfolding escaped
escaped-plain byte plain = grind (arith, nat_tests)

-- a byte with neither a short escape nor its own place is a control byte
pub control : (byte : ℕ) → is_plain byte ≡ false → short_escape byte ≡ None → byte < 32
control byte special none = grind (arith, nat_tests)

special-ascii : (byte : ℕ) → is_plain byte ≡ false → byte < 128
special-ascii byte special = grind (arith, nat_tests)

prefix-step : (byte : ℕ) (text : List ℕ) (n : ℕ) (plain : Bool) → is_plain byte ≡ plain → flat_map escaped text ≡ take n text ++ flat_map escaped (drop n text) → flat_map escaped (byte ∷ text) ≡ take (cond plain (1 + n) 0) (byte ∷ text) ++ flat_map escaped (drop (cond plain (1 + n) 0) (byte ∷ text))
prefix-step byte text n true plain rest =
    let one : 1 + n ≡ suc n = omega arith in
    rw (one, escaped-plain byte plain) (ap (λ l. byte ∷ l) rest)
prefix-step byte text n false special rest = refl

-- a text is its plain beginning, and what is printed of the rest
pub flat_map-prefix : (text : List ℕ) → flat_map escaped text ≡ take (prefix_len is_plain text) text ++ flat_map escaped (drop (prefix_len is_plain text) text)
flat_map-prefix [] = refl
flat_map-prefix (byte ∷ text) = prefix-step byte text (prefix_len is_plain text) (is_plain byte) refl (flat_map-prefix text)

module _ (text : List ℕ) (stop : ℕ) (at : stop ≡ prefix_len is_plain text) where
  -- the first byte that is not plain is within the text
  pub special-within : stop ≢ length text → stop < length text
  special-within ne = omega (arith, prefix_len-le-length is_plain text)

  pub special-at : stop ≢ length text → is_plain (get_or text stop 0) ≡ false
  special-at ne = rw at (prefix_len_stops is_plain text 0 (omega (arith, special-within ne)))

  pub cut_before : IsCharBoundary text stop
  cut_before = (
    omega (arith, prefix_len-le-length is_plain text),
    λ within wide. let narrow : get_or text stop 0 < 128 = special-ascii _ (special-at (λ end. omega arith)) in omega arith,
  )

  pub cut_after : IsUtf8 text → stop ≢ length text → IsCharBoundary text (stop + 1)
  cut_after utf8 ne = IsCharBoundary-after_ascii text stop utf8 (special-within ne) (special-ascii _ (special-at ne))

  pub flat_map-stop : flat_map escaped text ≡ take stop text ++ flat_map escaped (drop stop text)
  flat_map-stop = rw at (flat_map-prefix text)

  pub flat_map-plain : stop ≡ length text → flat_map escaped text ≡ take stop text
  flat_map-plain end = flat_map-stop ∙ ap (λ rest. take stop text ++ flat_map escaped rest) (drop_all stop text (omega arith)) ∙ append-nil (take stop text)

  -- what is printed up to the first byte that is not plain, for it and behind it
  pub flat_map-special : stop ≢ length text → flat_map escaped text ≡ take stop text ++ (escaped (get_or text stop 0) ++ flat_map escaped (drop (stop + 1) text))
  flat_map-special ne =
      flat_map-stop ∙ ap (λ rest. take stop text ++ flat_map escaped rest) (drop_more text stop 0 (special-within ne))
