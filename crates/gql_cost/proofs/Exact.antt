-- A refusal comes where its cause holds, and no other comes then.
use Rattle.std.proofs.Common.{arith, ◌≡◌, ◌≢◌, ℕ, List, Result, Ok, Err, IfOk, IfErr, IsErrAnd, ap, ◌∙◌, subst}
use Rattle.gql_document_types.specs.declared.document.ExecutableDocument.{ExecutableDocument}
use Rattle.gql_document_types.specs.declared.operation.Operation.{Operation}
use Rattle.gql_engine.specs.AnswerError.{Asks, Call, ComesFor, HasCause, IsObjectText, IsValid, wanted_with}
use Rattle.gql_engine.specs.Ready.{Ready}
use Rattle.gql_engine.specs.Responding.{HasCauseOf}
use Rattle.gql_engine.specs.Wanted.{Members, Wanted}
use Rattle.gql_engine.specs.declared.answer_error.AnswerError.{AnswerError}
use Rattle.gql_engine.specs.declared.answer_error.AnswerError.TheVariants as error
use Rattle.gql_cost.specs.Sum.{cost}
use Rattle.gql_cost.specs.Limited.{HasLimitedCause, HasLimitedCauseOf, IsTooCostly, IsWithin, LimitedCause, LimitedComesFor}
use Rattle.gql_cost.specs.ReachedNodes.{cost_of}
use Rattle.gql_cost.specs.declared.cost_limit.CostLimit.{CostLimit}
use Rattle.gql_cost.specs.declared.limited_error.LimitedError.{LimitedError}
use Rattle.gql_cost.specs.declared.limited_error.LimitedError.TheVariants.{Answer, TooCostly}

-- whatever the causes are: none holds of what is valid, and one excludes others
module _ (Cause : AnswerError → Type 0) (Valid Within Above : Type 0) (within-valid : Within → Valid) (above-valid : Above → Valid)
    (apart : Within → Above → ⊥) (no-cause : (refusal : AnswerError) → Valid → Cause refusal → refusal ≡ error.Memory)
    (alike : (refusal told : AnswerError) → refusal ≢ error.Memory → Cause refusal → Cause told → ComesFor refusal told) where
  never : Within → (refusal : LimitedError) → refusal ≢ Answer error.Memory → LimitedCause Cause Above refusal → ⊥
  never within (Answer refusal) not cause = not (ap Answer (no-cause refusal (within-valid within) cause))
  never within TooCostly not cause = apart within cause

  come : (refusal told : LimitedError) → refusal ≢ Answer error.Memory → LimitedCause Cause Above refusal → LimitedCause Cause Above told
      → LimitedComesFor refusal told
  come (Answer refusal) (Answer told) not cause other = alike refusal told (λ same. not (ap Answer same)) cause other
  come (Answer refusal) TooCostly not cause other = not (ap Answer (no-cause refusal (above-valid other) cause))
  come TooCostly (Answer told) not cause other = no-cause told (above-valid cause) other
  come TooCostly TooCostly not cause other = tt

  for-memory : Within → (told : LimitedError) → LimitedCause Cause Above told → told ≡ Answer error.Memory
  for-memory within (Answer told) cause = ap Answer (no-cause told (within-valid within) cause)
  for-memory within TooCostly cause = absurd (apart within cause)

  module _ {A : Type 0} {P : A → Type 0} (is-within : (found : A) → P found → Within) where
    exact-one : (result : Result A LimitedError) → IfOk result P → IfErr result (LimitedCause Cause Above)
        → (refusal : LimitedError) → refusal ≢ Answer error.Memory → LimitedCause Cause Above refusal → IsErrAnd result (LimitedComesFor refusal)
    exact-one (Ok found) within told refusal not cause = absurd (never (is-within found within) refusal not cause)
    exact-one (Err other) within told refusal not cause = come refusal other not cause told

  valid-one : {A : Type 0} (result : Result A LimitedError) → IfErr result (LimitedCause Cause Above) → Within
      → IfErr result (λ told. told ≡ Answer error.Memory)
  valid-one (Ok found) told within = tt
  valid-one (Err other) told within = for-memory within other told

-- ---- what the laws of the engine say

pub record EngineLaws : Type 0 where
  pub calls : (call : Call) (refusal told : AnswerError) → refusal ≢ error.Memory → HasCause call refusal → HasCause call told → ComesFor refusal told
  pub valid : (call : Call) (refusal : AnswerError) → IsValid call → HasCause call refusal → refusal ≡ error.Memory
  pub wanted : (wanted : Wanted) (refusal told : AnswerError) → refusal ≢ error.Memory → HasCauseOf wanted refusal → HasCauseOf wanted told
      → ComesFor refusal told
  pub ready : (wanted : Wanted) (refusal : AnswerError) → Ready wanted → HasCauseOf wanted refusal → refusal ≡ error.Memory
  pub document : (wanted : Wanted) (one other : Ready wanted) → one.meant.document ≡ other.meant.document
  pub operation : (wanted : Wanted) (one other : Ready wanted) → one.operation ≡ other.operation
  pub members : (text : List ℕ) (one other : Members) → IsObjectText text one → IsObjectText text other → one ≡ other

-- what is wanted is ready in one way, and so has one cost
module _ (wanted : Wanted) (one-document : (one other : Ready wanted) → one.meant.document ≡ other.meant.document)
    (one-operation : (one other : Ready wanted) → one.operation ≡ other.operation) (limit : CostLimit) where
  pub one-cost : (one other : Ready wanted) → cost_of limit.items one ≡ cost_of limit.items other
  one-cost one other =
      ap (λ (document : ExecutableDocument). cost limit.items document.fragments one.operation.selection_set.selections) (one-document one other)
      ∙ ap (λ (operation : Operation). cost limit.items other.meant.document.fragments operation.selection_set.selections) (one-operation one other)

module _ (laws : EngineLaws) (limit : CostLimit) where
  costs-apart : (wanted : Wanted) → IsWithin limit wanted → IsTooCostly limit wanted → ⊥
  costs-apart wanted within above =
      absurd (omega (arith, within.costs, above.costs, one-cost wanted (laws.document wanted) (laws.operation wanted) limit within.ready above.ready))

  -- ---- of what is wanted

  module _ (wanted : Wanted) where
    pub wanted-never : IsWithin limit wanted → (refusal : LimitedError) → refusal ≢ Answer error.Memory → HasLimitedCauseOf limit wanted refusal → ⊥
    wanted-never =
        never (HasCauseOf wanted) (Ready wanted) (IsWithin limit wanted) (IsTooCostly limit wanted) (λ it. it.ready) (λ it. it.ready) (costs-apart wanted)
        (λ e ready cause. laws.ready wanted e ready cause) (laws.wanted wanted)

    pub wanted-memory : IsWithin limit wanted → (told : LimitedError) → HasLimitedCauseOf limit wanted told → told ≡ Answer error.Memory
    wanted-memory =
        for-memory (HasCauseOf wanted) (Ready wanted) (IsWithin limit wanted) (IsTooCostly limit wanted) (λ it. it.ready) (λ it. it.ready) (costs-apart wanted)
        (λ e ready cause. laws.ready wanted e ready cause) (laws.wanted wanted)

    pub wanted-exact : {A : Type 0} {P : A → Type 0} → ((found : A) → P found → IsWithin limit wanted) → (result : Result A LimitedError)
        → IfOk result P → IfErr result (HasLimitedCauseOf limit wanted)
        → (refusal : LimitedError) → refusal ≢ Answer error.Memory → HasLimitedCauseOf limit wanted refusal → IsErrAnd result (LimitedComesFor refusal)
    wanted-exact is-within result =
        exact-one (HasCauseOf wanted) (Ready wanted) (IsWithin limit wanted) (IsTooCostly limit wanted) (λ it. it.ready) (λ it. it.ready) (costs-apart wanted)
        (λ e ready cause. laws.ready wanted e ready cause) (laws.wanted wanted) is-within result

    pub wanted-valid : {A : Type 0} (result : Result A LimitedError) → IfErr result (HasLimitedCauseOf limit wanted) → IsWithin limit wanted
        → IfErr result (λ told. told ≡ Answer error.Memory)
    wanted-valid result =
        valid-one (HasCauseOf wanted) (Ready wanted) (IsWithin limit wanted) (IsTooCostly limit wanted) (λ it. it.ready) (λ it. it.ready) (costs-apart wanted)
        (λ e ready cause. laws.ready wanted e ready cause) (laws.wanted wanted) result

  -- ---- of a call

  module _ (call : Call) where
    within-valid-call : Asks call (IsWithin limit) → IsValid call
    within-valid-call it = record { members = it.members; object = it.object; holds = it.holds.ready }

    above-valid-call : Asks call (IsTooCostly limit) → IsValid call
    above-valid-call it = record { members = it.members; object = it.object; holds = it.holds.ready }

    calls-apart : Asks call (IsWithin limit) → Asks call (IsTooCostly limit) → ⊥
    calls-apart within above =
        costs-apart (wanted_with call above.members)
        (subst (λ members. IsWithin limit (wanted_with call members)) (laws.members call.variables within.members above.members within.object above.object) within.holds)
        above.holds

    pub call-exact : {A : Type 0} {P : A → Type 0} → ((found : A) → P found → Asks call (IsWithin limit)) → (result : Result A LimitedError)
        → IfOk result P → IfErr result (HasLimitedCause limit call)
        → (refusal : LimitedError) → refusal ≢ Answer error.Memory → HasLimitedCause limit call refusal → IsErrAnd result (LimitedComesFor refusal)
    call-exact is-within result =
        exact-one (HasCause call) (IsValid call) (Asks call (IsWithin limit)) (Asks call (IsTooCostly limit)) within-valid-call above-valid-call calls-apart
        (λ e valid cause. laws.valid call e valid cause) (laws.calls call) is-within result

    pub call-valid : {A : Type 0} (result : Result A LimitedError) → IfErr result (HasLimitedCause limit call) → Asks call (IsWithin limit)
        → IfErr result (λ told. told ≡ Answer error.Memory)
    call-valid result =
        valid-one (HasCause call) (IsValid call) (Asks call (IsWithin limit)) (Asks call (IsTooCostly limit)) within-valid-call above-valid-call calls-apart
        (λ e valid cause. laws.valid call e valid cause) (laws.calls call) result
