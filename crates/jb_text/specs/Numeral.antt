-- Digits that write a whole number.
use Rattle.std.specs.Prelude.{ℕ, nat_lt, Bool, ◌&&◌, List, length}
use Rattle.std.specs.Char.{is_ascii_digit}
use Rattle.std.specs.List.{list_all}

-- one digit or more, and nothing else
abbrev pub is_numeral : List ℕ → Bool
is_numeral digits = nat_lt 0 (length digits) && list_all is_ascii_digit digits
