-- What only private clauses and proofs cite, beside `ChosenOperation`.
use Rattle.std.specs.Prelude.{◌≡◌, ℕ, List, Result, Ok, Err}
use Rattle.jb_text.specs.declared.refused.Refused.{Refused}
use Rattle.jb_text.specs.declared.refused.Refused.TheVariants.{Fault, Memory}
use Rattle.gql_response.specs.declared.request_error.RequestError.{RequestError}
use Rattle.gql_document_types.specs.ChosenOperation.{refusal}

abbrev pub IsRefusal : {E : Type 0} → Result (List ℕ) E → Refused RequestError → Type 0
IsRefusal (Ok message) answer = answer ≡ Fault (refusal message)
IsRefusal (Err _) answer = answer ≡ Memory
