-- The front of what is left, by its first byte.
use Rattle.std.proofs.Common.{◌≡◌, ℕ, false, List, [], ◌∷◌, Some, None, refl}
use Rattle.jb_read.specs.Bytes.{is_white, is_digit, skip_white}
use Rattle.jb_read.specs.bridge.Bytes.{first}
use Rattle.jb_read.specs.Numbers.{digits_from}

pub first_none : (at : List ℕ) → first at ≡ None → at ≡ []
first_none [] e = refl
first_none (c ∷ at) e = absurd cc

pub skip_white_stop : (at : List ℕ) (b : ℕ) → first at ≡ Some b → is_white b ≡ false → skip_white at ≡ at
skip_white_stop [] b e w = refl
skip_white_stop (c ∷ at) b e w = let same : c ≡ b = cc in rw (same, w) refl

pub skip_white_end : (at : List ℕ) → first at ≡ None → skip_white at ≡ at
skip_white_end at e = rw (first_none at e) refl

pub digits_from_stop : (n : ℕ) (at : List ℕ) (b : ℕ) → first at ≡ Some b → is_digit b ≡ false → digits_from n at ≡ (n, at)
digits_from_stop n [] b e d = refl
digits_from_stop n (c ∷ at) b e d = let same : c ≡ b = cc in rw (same, d) refl

pub digits_from_end : (n : ℕ) (at : List ℕ) → first at ≡ None → digits_from n at ≡ (n, at)
digits_from_end n at e = rw (first_none at e) refl
