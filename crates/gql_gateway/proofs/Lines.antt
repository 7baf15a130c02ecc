-- What the program writes for a request.
use Rattle.std.proofs.Common.{◌≡◌, ℕ, true, List, Result, Ok, Err, IfOk, refl, sym, subst}
use Rattle.gql_resolvers.specs.Data.{Data}
use Rattle.gql_resolvers.specs.DataMeaning.{data_meaning}
use Rattle.gql_engine.specs.Request.{Asked}
use Rattle.gql_engine.specs.Answered.{Answered}
use Rattle.gql_engine.specs.Reply.{root_of}
use Rattle.gql_engine.specs.Serving.{IsDoneOutput, IsOutput, IsRefusedOutput, line}
use Rattle.gql_engine.specs.declared.output.Output.{Output}
use Rattle.gql_engine.specs.declared.output.Output.TheVariants.{Done}
use Rattle.gql_gateway.specs.Causes.{HasLocalCause}
use Rattle.gql_gateway.specs.Command.{Answers, DataTells, Refuses, wanted_here}
use Rattle.gql_gateway.specs.Gateway.{HasData, IsJoinedBy}
use Rattle.gql_gateway.specs.Told.{IsGatewayTold}
use Rattle.gql_gateway.specs.bridge.Told.{IsGatewayLine}
use Rattle.gql_gateway.specs.declared.gateway_error.GatewayError.{GatewayError}
use Rattle.gql_gateway.specs.declared.gateway_error.GatewayError.TheVariants.{Memory}

on-ok : {A E : Type 0} {P Q : A → Type 0} (result : Result A E) → ((a : A) → P a → Q a) → IfOk result P → IfOk result Q
on-ok (Ok a) f h = f a h
on-ok (Err e) f h = tt

module _ {E : Type 0} (result : Result Output E) where
  pub is-done : (text : List ℕ) → IfOk result (λ output. output ≡ Done text) → IfOk result IsDoneOutput
  is-done text h = on-ok result (λ output is. subst IsDoneOutput (sym is) tt) h

  pub is-refused : (refusal : GatewayError) → IfOk result (IsGatewayLine refusal) → IfOk result IsRefusedOutput
  is-refused refusal h = on-ok result (λ output is. subst IsRefusedOutput (sym is.2) tt) h

  -- want of memory is told to none
  pub never-told : (P : Output → Type 0) (refusal : GatewayError) → refusal ≡ Memory → IfOk result (IsGatewayLine refusal) → IfOk result P
  never-told P refusal is h = on-ok result (λ output told. absurd (subst (λ r. IsGatewayTold r told.0) is told.1)) h

  module _ (request : Asked) where
    pub answer-done : (bytes : List ℕ) → IsJoinedBy (DataTells (root_of request)) (wanted_here request) bytes
        → ((other : List ℕ) (answered : Answered (λ (object : Data). object.type_name) data_meaning (root_of request) (wanted_here request) other)
        → HasData answered → bytes ≡ other)
        → IfOk result (λ output. output ≡ Done (line bytes)) → IfOk result (IsOutput (Answers request) (Refuses request))
    answer-done bytes joined whole h =
        on-ok result (λ output is.
        subst (IsOutput (Answers request) (Refuses request)) (sym is)
        (record { bytes = bytes; joined = joined; whole = whole; written = refl })) h

    pub answer-refused : (refusal : GatewayError) → HasLocalCause (wanted_here request) refusal → IfOk result (IsGatewayLine refusal)
        → IfOk result (IsOutput (Answers request) (Refuses request))
    answer-refused refusal cause h =
        on-ok result (λ output told.
        subst (IsOutput (Answers request) (Refuses request)) (sym told.2)
        (record { refusal = refusal; cause = cause; told = told.0; says = told.1; written = refl })) h
