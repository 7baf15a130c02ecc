use Rattle.std.specs.Prelude.{◌≡◌, ℕ, ℤ, pos, negsuc, Option, Some, None}
use Rattle.jb_text.specs.declared.number.Whole.{Whole}
use Rattle.jb_text.specs.declared.number.Whole.TheVariants.{Unsigned, Negative}

-- the number that the two forms stand for
abbrev pub whole_value : Whole → ℤ
whole_value (Unsigned n) = pos n
whole_value (Negative z) = z

-- the number itself where it is not below zero, else nothing
abbrev pub IsUnsigned : Option ℕ → ℤ → Type 0
IsUnsigned found (pos n) = found ≡ Some n
IsUnsigned found (negsuc n) = found ≡ None
