-- What a call gives, by what is wanted with its variables.
use Rattle.std.proofs.Common.{ℕ, List, Result, Ok, Err, IfOk, IfErr}
use Rattle.gql_engine.specs.AnswerError.{Asks, Call, HasCause, IsObjectText, wanted_with}
use Rattle.gql_exec.specs.ThingMeaning.{Resolving}
use Rattle.gql_engine.specs.Responding.{HasCauseOf}
use Rattle.gql_engine.specs.Wanted.{Members}
use Rattle.gql_engine.specs.declared.answer_error.AnswerError.{AnswerError}
use Rattle.gql_cost.specs.Limited.{AnsweredWithin, HasLimitedCause, HasLimitedCauseOf, IsCallUnexecuted, IsUnexecuted, IsWithin}
use Rattle.gql_cost.specs.declared.cost_limit.CostLimit.{CostLimit}
use Rattle.gql_cost.specs.declared.limited_error.LimitedError.{LimitedError}
use Rattle.gql_cost.specs.declared.limited_error.LimitedError.TheVariants.{Answer, TooCostly}

module _ {X : Type 0} (type_of : X → List ℕ) (resolves : Resolving X) (root : X) (limit : CostLimit) (call : Call) where
  pub asks-within : (bytes : List ℕ) → Asks call (λ wanted. AnsweredWithin type_of resolves root limit wanted bytes) → Asks call (IsWithin limit)
  asks-within bytes it = record {
    members = it.members;
    object = it.object;
    holds = record { ready = it.holds.answered.ready; costs = it.holds.costs };
  }

  module _ (members : Members) (object : IsObjectText call.variables members)
      (lifted : (refusal : AnswerError) → HasCauseOf (wanted_with call members) refusal → HasCause call refusal) where
    pub refusal-lifted : (refusal : LimitedError) → HasLimitedCauseOf limit (wanted_with call members) refusal → HasLimitedCause limit call refusal
    refusal-lifted (Answer refusal) cause = lifted refusal cause
    refusal-lifted TooCostly above = record { members = members; object = object; holds = above }

    pub result-answered : (result : Result (List ℕ) LimitedError) → IfOk result (AnsweredWithin type_of resolves root limit (wanted_with call members))
        → IfOk result (λ bytes. Asks call (λ wanted. AnsweredWithin type_of resolves root limit wanted bytes))
    result-answered (Ok bytes) within = record { members = members; object = object; holds = within }
    result-answered (Err refusal) within = tt

    pub result-refused : (result : Result (List ℕ) LimitedError) → IfErr result (HasLimitedCauseOf limit (wanted_with call members))
        → IfErr result (HasLimitedCause limit call)
    result-refused (Ok bytes) cause = tt
    result-refused (Err refusal) cause = refusal-lifted refusal cause

module _ (call : Call) (members : Members) (object : IsObjectText call.variables members) (before after : ℕ) where
  refusal-unexecuted : (refusal : LimitedError) → IsUnexecuted (wanted_with call members) before after refusal → IsCallUnexecuted call before after refusal
  refusal-unexecuted (Answer refusal) unexecuted = tt
  refusal-unexecuted TooCostly unexecuted = record { members = members; object = object; holds = unexecuted }

  pub result-unexecuted : (result : Result (List ℕ) LimitedError) → IfErr result (IsUnexecuted (wanted_with call members) before after)
      → IfErr result (IsCallUnexecuted call before after)
  result-unexecuted (Ok bytes) unexecuted = tt
  result-unexecuted (Err refusal) unexecuted = refusal-unexecuted refusal unexecuted
