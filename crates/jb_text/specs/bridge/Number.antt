-- What only private clauses and proofs cite, beside `Number`.
use Rattle.std.specs.Prelude.{ℤ, pos, negsuc}
use Rattle.jb_text.specs.declared.number.Whole.{Whole}
use Rattle.jb_text.specs.declared.number.Whole.TheVariants.{Unsigned, Negative}

-- the form of a number: unsigned from zero on
abbrev pub whole_of : ℤ → Whole
whole_of (pos n) = Unsigned n
whole_of (negsuc n) = Negative (negsuc n)
