-- What only private clauses and proofs cite, beside `Numbers`.
use Rattle.std.specs.Prelude.{ℕ, ◌^◌, nat_lt}
use Rattle.std.specs.Prelude.{if◌then◌else◌, List, Option, Some, None, Result, Ok}
use Rattle.jb_read.specs.declared.fault.Broken.{Broken}
use Rattle.jb_read.specs.Reading.{◌>>=◌}
use Rattle.jb_read.specs.Numbers.{whole_part_at}

-- a magnitude where 64 bits hold it
abbrev pub within : ℕ → Option ℕ
within n = if nat_lt n (2 ^ 64) then Some n else None

-- the same of the digits of a number
abbrev pub bounded_whole_at : List ℕ → Result (Option ℕ × List ℕ) Broken
bounded_whole_at at = whole_part_at at >>= λ read. Ok (within read.0, read.1)
