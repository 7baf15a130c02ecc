-- What only private clauses and proofs cite, beside `Requests`.
use Rattle.std.specs.Prelude.{◌≡◌, ℕ, List}
use Rattle.std.specs.Prelude.{Option, Result, Ok, Err}
use Rattle.std.specs.Borrow.{Bor}
use Rattle.gql_document_types.specs.ChosenOperation.{text_of}
use Rattle.gql_c.specs.Requests.{name_given, IsNameRead, IsNoName}

-- the name that counts, or that it is no text
abbrev pub IsName : {E : Type 0} → List ℕ → ℕ → Result (Option (Bor (List ℕ))) E → Type 0
IsName name flags (Ok given) = (text_of given ≡ name_given name flags) × IsNameRead name flags
IsName name flags (Err _) = IsNoName name flags
