-- What only private clauses and proofs cite, beside `Program`.
use Rattle.std.specs.Prelude.{◌≡◌, ℕ, List}
use Rattle.jb_io.specs.Reply.{line}

-- it ends in LF
pub record EndsLine (text : List ℕ) : Type 0 where
  pub front : List ℕ
  pub is : text ≡ line front
