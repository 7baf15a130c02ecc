-- What is answered within a limit, and what is refused for it. Want of memory alone is free.
use Rattle.std.specs.Prelude.{◌≡◌, ◌≢◌, ◌≤◌, ◌<◌, ◌+◌, ℕ, List, Result, IfOk, IfErr, IsErrAnd}
use Rattle.gql_exec.specs.ThingMeaning.{Resolving}
use Rattle.gql_engine.specs.Answered.{Answered}
use Rattle.gql_engine.specs.AnswerError.{Asks, Call, ComesFor, HasCause}
use Rattle.gql_engine.specs.Depths.{all_selections, depth_looks}
use Rattle.gql_engine.specs.Ready.{Ready}
use Rattle.gql_engine.specs.Responding.{HasCauseOf}
use Rattle.gql_engine.specs.Wanted.{Wanted}
use Rattle.gql_engine.specs.declared.answer_error.AnswerError.{AnswerError}
use Rattle.gql_engine.specs.declared.answer_error.AnswerError.TheVariants as error
use Rattle.gql_cost.specs.ReachedNodes.{HasDataNodes, HasShortLists, cost_of}
use Rattle.gql_cost.specs.declared.cost_limit.CostLimit.{CostLimit}
use Rattle.gql_cost.specs.declared.limited_error.LimitedError.{LimitedError}
use Rattle.gql_cost.specs.declared.limited_error.LimitedError.TheVariants.{Answer, TooCostly}

-- The bytes are the response, whose cost is no more than the limit. So where no list that is reached has more items than the limit
-- says, the response's data have no more nodes than it says.
pub record AnsweredWithin {X : Type 0} (type_of : X → List ℕ) (resolves : Resolving X) (root : X) (limit : CostLimit) (wanted : Wanted)
    (bytes : List ℕ) : Type 0 where
  pub answered : Answered type_of resolves root wanted bytes
  pub costs : cost_of limit.items answered.ready ≤ limit.nodes
  pub nodes : HasShortLists answered limit.items → (count : ℕ) → HasDataNodes answered count → count ≤ limit.nodes

-- nothing else is in the way of a response, and its cost is no more than the limit
pub record IsWithin (limit : CostLimit) (wanted : Wanted) : Type 0 where
  pub ready : Ready wanted
  pub costs : cost_of limit.items ready ≤ limit.nodes

-- nothing else is in the way of a response, but its cost is above the limit
pub record IsTooCostly (limit : CostLimit) (wanted : Wanted) : Type 0 where
  pub ready : Ready wanted
  pub costs : limit.nodes < cost_of limit.items ready

-- ---- refusals

-- one that comes whatever is cheap, or that for the cost
abbrev pub LimitedCause : (AnswerError → Type 0) → Type 0 → LimitedError → Type 0
LimitedCause Cause Above (Answer refusal) = Cause refusal
LimitedCause Cause Above TooCostly = Above

-- the cause of each refusal of what is wanted
abbrev pub HasLimitedCauseOf : CostLimit → Wanted → LimitedError → Type 0
HasLimitedCauseOf limit wanted = LimitedCause (HasCauseOf wanted) (IsTooCostly limit wanted)

-- and of a call
abbrev pub HasLimitedCause : CostLimit → Call → LimitedError → Type 0
HasLimitedCause limit call = LimitedCause (HasCause call) (Asks call (IsTooCostly limit))

-- the refusal that comes where the first one has its cause: that one, or out of memory
abbrev pub LimitedComesFor : LimitedError → LimitedError → Type 0
LimitedComesFor (Answer refusal) (Answer told) = ComesFor refusal told
LimitedComesFor (Answer refusal) TooCostly = ⊥
LimitedComesFor TooCostly (Answer told) = told ≡ error.Memory
LimitedComesFor TooCostly TooCostly = Unit {0}

-- a refusal for the cost took no more looks at selections than the check of the depth and the sum of the costs: nothing was executed
abbrev pub IsUnexecuted : Wanted → (before after : ℕ) → LimitedError → Type 0
IsUnexecuted wanted before after (Answer refusal) = Unit {0}
IsUnexecuted wanted before after TooCostly =
    (ready : Ready wanted)
    × (after ≤ before + (depth_looks wanted.introspection ready.meant.document ready.operation + all_selections ready.meant.document ready.operation))

-- the same of a call
abbrev pub IsCallUnexecuted : Call → (before after : ℕ) → LimitedError → Type 0
IsCallUnexecuted call before after (Answer refusal) = Unit {0}
IsCallUnexecuted call before after TooCostly = Asks call (λ wanted. IsUnexecuted wanted before after TooCostly)

-- ---- answers

-- A response within the limit to what is wanted, or a refusal by its cause. Where a cause holds its refusal comes; and where nothing
-- is in the way of a response within the limit it comes, unless memory fails.
pub record GivesWanted {X : Type 0} (type_of : X → List ℕ) (resolves : Resolving X) (root : X) (limit : CostLimit) (wanted : Wanted)
    (result : Result (List ℕ) LimitedError) : Type 0 where
  pub answered : IfOk result (AnsweredWithin type_of resolves root limit wanted)
  pub refused : IfErr result (HasLimitedCauseOf limit wanted)
  pub exact : (refusal : LimitedError) → refusal ≢ Answer error.Memory → HasLimitedCauseOf limit wanted refusal
      → IsErrAnd result (LimitedComesFor refusal)
  pub valid : IsWithin limit wanted → IfErr result (λ refusal. refusal ≡ Answer error.Memory)

-- the same of a call
pub record GivesLimitedAnswer {X : Type 0} (type_of : X → List ℕ) (resolves : Resolving X) (root : X) (limit : CostLimit) (call : Call)
    (result : Result (List ℕ) LimitedError) : Type 0 where
  pub answered : IfOk result (λ bytes. Asks call (λ wanted. AnsweredWithin type_of resolves root limit wanted bytes))
  pub refused : IfErr result (HasLimitedCause limit call)
  pub exact : (refusal : LimitedError) → refusal ≢ Answer error.Memory → HasLimitedCause limit call refusal → IsErrAnd result (LimitedComesFor refusal)
  pub valid : Asks call (IsWithin limit) → IfErr result (λ refusal. refusal ≡ Answer error.Memory)
