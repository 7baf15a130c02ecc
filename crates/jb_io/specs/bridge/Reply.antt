-- What only private clauses and proofs cite, beside `Reply`.
use Rattle.std.specs.Prelude.{ℕ, List}
use Rattle.jb_io.specs.declared.command.Reply.{Reply}
use Rattle.jb_io.specs.declared.command.Reply.TheVariants.{Answer, Refusal}

abbrev pub text_of : Reply → List ℕ
text_of (Answer text) = text
text_of (Refusal text) = text

abbrev pub status_of : Reply → ℕ
status_of (Answer text) = 0
status_of (Refusal text) = 1
