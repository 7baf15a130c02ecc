-- What a call for an answer gives.
use Rattle.std.specs.Prelude.{◌≡◌, ◌≢◌, ℕ, List, Result, IfOk, IfErr, IsErrAnd}
use Rattle.gql_exec.specs.ThingMeaning.{Resolving}
use Rattle.gql_engine.specs.declared.answer_error.AnswerError.{AnswerError}
use Rattle.gql_engine.specs.declared.answer_error.AnswerError.TheVariants.{Memory}
use Rattle.gql_engine.specs.AnswerError.{Asks, Call, ComesFor, HasCause, IsValid}
use Rattle.gql_engine.specs.Answered.{Answered}
use Rattle.gql_engine.specs.Responding.{AnsweredWithin}

-- the bytes are a response to what the call wants
abbrev pub Answers : {X : Type 0} → (X → List ℕ) → Resolving X → X → Call → List ℕ → Type 0
Answers type_of resolves root call bytes = Asks call (λ wanted. Answered type_of resolves root wanted bytes)

-- and these looks were counted for it
abbrev pub AnswersWithin : {X : Type 0} → (X → List ℕ) → Resolving X → X → Call → (before after : ℕ) → List ℕ → Type 0
AnswersWithin type_of resolves root call before after bytes = Asks call (λ wanted. AnsweredWithin type_of resolves root wanted before after bytes)

-- a response, or a refusal by its cause; where a cause holds its refusal comes, and a valid request is answered, unless memory fails
pub record GivesAnswer {X : Type 0} (type_of : X → List ℕ) (resolves : Resolving X) (root : X) (call : Call)
    (result : Result (List ℕ) AnswerError) : Type 0 where
  pub answered : IfOk result (Answers type_of resolves root call)
  pub refused : IfErr result (HasCause call)
  pub exact : (error : AnswerError) → error ≢ Memory → HasCause call error → IsErrAnd result (ComesFor error)
  pub valid : IsValid call → IfErr result (λ error. error ≡ Memory)
