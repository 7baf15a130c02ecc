-- What only private clauses and proofs cite, beside `Strings`.
use Rattle.std.specs.Prelude.{ℕ, Bool, not, ◌&&◌, nat_lt}
use Rattle.jb_read.specs.Strings.{is_special}

-- a byte that stands for itself, and is ASCII
abbrev pub is_plain_ascii : ℕ → Bool
is_plain_ascii b = not (is_special b) && nat_lt b 128
