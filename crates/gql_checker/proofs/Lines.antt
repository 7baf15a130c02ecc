-- What the program writes for a request.
use Rattle.std.proofs.Common.{◌≡◌, Result, Ok, Err, IfOk, refl, sym, ap, ◌∙◌, subst}
use Rattle.gql_engine.specs.Reply.{wanted_of}
use Rattle.gql_engine.specs.Responding.{HasCauseOf}
use Rattle.gql_engine.specs.Serving.{IsDoneOutput, IsOutput, IsRefusedOutput}
use Rattle.gql_engine.specs.Told.{IsToldOf}
use Rattle.gql_engine.specs.ToldLine.{IsRefusalLine}
use Rattle.gql_engine.specs.declared.answer_error.AnswerError.{AnswerError}
use Rattle.gql_engine.specs.declared.answer_error.AnswerError.TheVariants as error
use Rattle.gql_engine.specs.declared.output.Output.{Output}
use Rattle.gql_engine.specs.Request.{Asked}
use Rattle.gql_response_check.specs.declared.verdict.Verdict.{Verdict}
use Rattle.gql_response_check.specs.declared.verdict.Verdict.TheVariants.{Explained, NotResponse, FalseError, BadValue}
use Rattle.gql_checker.specs.Command.{Answers, Refuses, other, unready}
use Rattle.gql_checker.specs.Judged.{IsJudgedAs}
use Rattle.gql_checker.specs.bridge.Told.{output_of}

on-ok : {A E : Type 0} {P Q : A → Type 0} (result : Result A E) → ((a : A) → P a → Q a) → IfOk result P → IfOk result Q
on-ok (Ok a) f h = f a h
on-ok (Err e) f h = tt

other-refused : (it : Verdict) → (it ≡ Explained → ⊥) → IsRefusedOutput (output_of it)
other-refused Explained not = absurd (not refl)
other-refused (NotResponse fault) not = tt
other-refused (FalseError index) not = tt
other-refused (BadValue path) not = tt

module _ {E : Type 0} (result : Result Output E) where
  pub is-done : (it : Verdict) → it ≡ Explained → IfOk result (λ output. output ≡ output_of it) → IfOk result IsDoneOutput
  is-done it explained h = on-ok result (λ output is. subst IsDoneOutput (sym (is ∙ ap output_of explained)) tt) h

  pub is-other : (it : Verdict) → (it ≡ Explained → ⊥) → IfOk result (λ output. output ≡ output_of it) → IfOk result IsRefusedOutput
  is-other it not h = on-ok result (λ output is. subst IsRefusedOutput (sym is) (other-refused it not)) h

  pub is-refused : (refusal : AnswerError) → IfOk result (IsRefusalLine refusal) → IfOk result IsRefusedOutput
  is-refused refusal h = on-ok result (λ output is. subst IsRefusedOutput (sym is.2) tt) h

  -- want of memory is told to none
  pub never-told : (P : Output → Type 0) (refusal : AnswerError) → refusal ≡ error.Memory → IfOk result (IsRefusalLine refusal) → IfOk result P
  never-told P refusal is h = on-ok result (λ output told. absurd (subst (λ r. IsToldOf r told.0) is told.1)) h

  module _ (request : Asked) where
    told-as : (it : Verdict) → IsJudgedAs request it → IsOutput (Answers request) (Refuses request) (output_of it)
    told-as Explained judged = record { judged = judged; written = refl }
    told-as (NotResponse fault) judged = other (NotResponse fault) (λ (e : NotResponse fault ≡ Explained). cc) judged
    told-as (FalseError index) judged = other (FalseError index) (λ (e : FalseError index ≡ Explained). cc) judged
    told-as (BadValue path) judged = other (BadValue path) (λ (e : BadValue path ≡ Explained). cc) judged

    pub verdict-told : (it : Verdict) → IsJudgedAs request it → IfOk result (λ output. output ≡ output_of it)
        → IfOk result (IsOutput (Answers request) (Refuses request))
    verdict-told it judged h = on-ok result (λ output is. subst (IsOutput (Answers request) (Refuses request)) (sym is) (told-as it judged)) h

    pub refusal-told : (refusal : AnswerError) → HasCauseOf (wanted_of request) refusal → IfOk result (IsRefusalLine refusal)
        → IfOk result (IsOutput (Answers request) (Refuses request))
    refusal-told refusal cause h =
        on-ok result (λ output line. subst (IsOutput (Answers request) (Refuses request)) (sym line.2) (unready refusal line.0 cause line.1)) h
