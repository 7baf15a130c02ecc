-- Bytes at the front of what is left, and the rest of a text.
use Rattle.std.specs.Prelude.{ℕ, Bool, false, ◌||◌, ◌==◌, nat_le, ◌&&◌, if◌then◌else◌, List, []}
use Rattle.std.specs.Prelude.{◌∷◌}

-- space, tab, line feed, carriage return (RFC 8259, section 2)
abbrev pub is_white : ℕ → Bool
is_white b = (b == 32) || (b == 9) || (b == 10) || (b == 13)

-- what is left behind white space
abbrev pub skip_white : List ℕ → List ℕ
skip_white [] = []
skip_white (b ∷ bs) = if is_white b then skip_white bs else b ∷ bs

abbrev pub is_digit : ℕ → Bool
is_digit b = nat_le 48 b && nat_le b 57

-- a test of the first byte, false where there is none
abbrev pub begins : (ℕ → Bool) → List ℕ → Bool
begins test [] = false
begins test (b ∷ bs) = test b
