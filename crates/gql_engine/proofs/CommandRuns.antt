-- The run of a command: what was read of its input, and what must come of it.
use Rattle.std.proofs.Common.{◌≡◌, ◌⊎◌, inl, inr, ℕ, List, ◌++◌, Option, Some, None, Result, Ok, Err, IfOk, ◌∙◌, sym, ap, subst, arith, append-nil}
use Rattle.jb_io.specs.Source.{ReadsWhole}
use Rattle.jb_io.specs.declared.serving.TheConstants.{NO_MEMORY, REFUSED, SINK_FAILED, SOURCE_FAILED, TOO_LONG}
use Rattle.gql_engine.specs.NotAsked.{IsAsked, NotAsked}
use Rattle.gql_engine.specs.Request.{Asked}
use Rattle.gql_engine.specs.declared.request_form.RequestForm.{RequestForm}
use Rattle.gql_engine.specs.Serving.{AnswersBytes, IsInput, IsOutput, IsRefusedOutput, MustAnswerBytes, MustRefuseBytes, RefusesBytes, message_line, no_request, not_asked, refusable, status_of, text_of, unanswered}
use Rattle.gql_engine.specs.declared.output.Output.{Output}
use Rattle.gql_engine.specs.declared.output.Output.TheVariants.{Done, Refused}

-- ---- what a source has left

pub read_input : (Holds : List ℕ → Type 0) (old new : Option (List ℕ)) (bytes : List ℕ) → IsInput Holds old → ReadsWhole old new bytes → Holds bytes
read_input Holds None new bytes p r = absurd p
read_input Holds (Some xs) None bytes p r = absurd r.gave
read_input Holds (Some xs) (Some ys) bytes p r = subst Holds (r.gave ∙ ap (λ (z : List ℕ). bytes ++ z) r.end ∙ append-nil bytes) p.1

-- ---- the output of a command

pub refused_status : (output : Output) (status : ℕ) → status ≡ status_of output → IsRefusedOutput output → status ≡ REFUSED
refused_status (Done text) status is h = absurd h
refused_status (Refused text) status is h = is

module _ {C : Type 0} (form : C → RequestForm) (answers : C → Asked → ℕ → ℕ → List ℕ → Type 0) (refuses : C → Asked → List ℕ → Type 0)
    (command : C) (bytes : List ℕ) (before after : ℕ) where
  -- of a request
  asked_is : (request : Asked) → IsAsked (form command) bytes request → (output : Output)
      → IsOutput (answers command request before after) (refuses command request) output
      → IsOutput (AnswersBytes form answers before after command bytes) (RefusesBytes form refuses command bytes) output
  asked_is request asks (Done text) h = record { request = request; asks = asks; answered = h }
  asked_is request asks (Refused text) h = unanswered request text asks h

  pub request_replied : {E : Type 0} (request : Asked) → IsAsked (form command) bytes request → (result : Result Output E)
      → IfOk result (IsOutput (answers command request before after) (refuses command request))
      → IfOk result (IsOutput (AnswersBytes form answers before after command bytes) (RefusesBytes form refuses command bytes))
  request_replied request asks (Ok output) h = asked_is request asks output h
  request_replied request asks (Err e) h = tt

  -- of what is none
  pub message_replied : {E : Type 0} (message : List ℕ) → NotAsked (form command) bytes message → (result : Result Output E)
      → IfOk result (λ output. output ≡ Refused (message_line message))
      → IfOk result (IsOutput (AnswersBytes form answers before after command bytes) (RefusesBytes form refuses command bytes))
  message_replied message why (Ok output) h =
      subst (IsOutput (AnswersBytes form answers before after command bytes) (RefusesBytes form refuses command bytes)) (sym h) (not_asked message why)
  message_replied message why (Err e) h = tt

-- it answers or refuses
pub output_means : (answers refuses : List ℕ → Type 0) (output : Output) → IsOutput answers refuses output → answers (text_of output) ⊎ refuses (text_of output)
output_means answers refuses (Done text) h = inl h
output_means answers refuses (Refused text) h = inr h

-- where the sink failed, no other status is told
pub no_other : {P : Type 0} → (SINK_FAILED ≡ NO_MEMORY) ⊎ ((SINK_FAILED ≡ SOURCE_FAILED) ⊎ (SINK_FAILED ≡ TOO_LONG)) → P
no_other (inl h) = absurd (omega (arith, h))
no_other (inr (inl h)) = absurd (omega (arith, h))
no_other (inr (inr h)) = absurd (omega (arith, h))

-- ---- what must come of bytes

module _ (one : (form : RequestForm) (bytes : List ℕ) (r s : Asked) → IsAsked form bytes r → IsAsked form bytes s → r ≡ s)
    (not_both : (form : RequestForm) (bytes : List ℕ) (r : Asked) (message : List ℕ) → IsAsked form bytes r → NotAsked form bytes message → ⊥)
    {C : Type 0} (form : C → RequestForm) (must : C → Asked → Type 0) (command : C) (bytes : List ℕ) where
  -- the request is the one that must be answered
  pub must_of : (request : Asked) → IsAsked (form command) bytes request → MustAnswerBytes form must command bytes → must command request
  must_of request asks h = subst (must command) (one (form command) bytes h.request request h.asks asks) h.must_be

  pub must_not_of : (request : Asked) → IsAsked (form command) bytes request → MustRefuseBytes form must command bytes → must command request
  must_not_of request asks (no_request message why) = absurd (not_both (form command) bytes request message asks why)
  must_not_of request asks (refusable other also h) = subst (must command) (one (form command) bytes other request also asks) h

  -- and what is no request need not be
  pub none_must : (message : List ℕ) → NotAsked (form command) bytes message → MustAnswerBytes form must command bytes → ⊥
  none_must message why h = not_both (form command) bytes h.request message h.asks why
