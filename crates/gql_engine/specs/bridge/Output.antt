-- What only private clauses and proofs cite, beside `Output`.
use Rattle.std.specs.Prelude.{◌≡◌, ℕ, List, length}
use Rattle.gql_engine.specs.declared.response_bytes.Written.{Written}
use Rattle.gql_engine.specs.Serving.{line}
use Rattle.gql_engine.specs.Output.{summary}

-- ---- on the way

-- the text of a self-test with this response
abbrev pub IsMeasured : ℕ → Written → List ℕ → Type 0
IsMeasured items written text = text ≡ line (summary items (length written.bytes) written.errors)
