-- What only private clauses and proofs cite, beside `Phases`.
use Rattle.std.specs.Prelude.{ℕ, List, Result, Ok, Err}
use Rattle.gql_engine.specs.declared.meaning.Texts.{Texts}
use Rattle.gql_engine.specs.declared.ready.ReadyOperation.{ReadyOperation}
use Rattle.gql_engine.specs.Meant.{AreMeant}
use Rattle.gql_engine.specs.Ready.{Ready}
use Rattle.gql_engine.specs.Responding.{HasCauseOf}
use Rattle.gql_engine.specs.Wanted.{Wanted, wanted_over}
use Rattle.gql_engine.specs.declared.answer_error.AnswerError.{AnswerError}
use Rattle.gql_engine.specs.declared.wanted.Wanted.{Wanted as WantedHere}
use Rattle.gql_engine.specs.Phases.{IsReady}

-- the texts mean this schema and this document
abbrev pub Mean : (schema query : List ℕ) → Texts → Type 0
Mean schema query texts = AreMeant schema query texts.schema.now texts.document.now

-- there are such texts
abbrev pub AreOfTexts : Texts → Type 0
AreOfTexts texts = (schema query : List ℕ) × Mean schema query texts

-- what holds of what a step gives, or the cause of its refusal, whichever texts it is that mean this
abbrev pub OrCauseOver : {A : Type 0} → Texts → WantedHere → (A → Type 0) → Result A AnswerError → Type 0
OrCauseOver texts wanted Holds (Ok given) = Holds given
OrCauseOver texts wanted Holds (Err refusal) = (schema query : List ℕ) → Mean schema query texts → HasCauseOf (wanted_over schema query wanted) refusal

-- so it is ready
abbrev pub ready_as : {wanted : Wanted} {before after : ℕ} {ready : ReadyOperation} → IsReady wanted before after ready → Ready wanted
ready_as {ready = ready} is = record {
  meant = record { schema = ready.schema.now; document = ready.document.now; are = is.meant };
  operation = ready.operation.now;
  is_chosen = is.is_chosen;
  is_shallow = is.is_shallow;
  variables = ready.variables;
  are_coerced = is.are_coerced;
}
