-- What is refused for its cost.
use Rattle.std.proofs.Common.{arith, ◌≤◌, ◌+◌, ℕ, Result, Ok, Err, IfErr, sym, subst}
use Rattle.gql_engine.specs.Depths.{all_selections, depth_looks}
use Rattle.gql_engine.specs.Ready.{Ready}
use Rattle.gql_engine.specs.Wanted.{Wanted}
use Rattle.gql_engine.specs.declared.answer_error.AnswerError.TheVariants as error
use Rattle.gql_cost.specs.Costing.{IsAboveLimit}
use Rattle.gql_cost.specs.bridge.Costing.{IsForMemory}
use Rattle.gql_cost.specs.Limited.{HasLimitedCauseOf, IsUnexecuted}
use Rattle.gql_cost.specs.ReachedNodes.{cost_of}
use Rattle.gql_cost.specs.declared.cost_limit.CostLimit.{CostLimit}
use Rattle.gql_cost.specs.declared.limited_error.LimitedError.{LimitedError}
use Rattle.gql_cost.specs.declared.limited_error.LimitedError.TheVariants.{Answer, TooCostly}

module _ (limit : CostLimit) (wanted : Wanted) (ready : Ready wanted) where
  pub refused-cost : (told : LimitedError) → IsAboveLimit limit.nodes (cost_of limit.items ready) told → HasLimitedCauseOf limit wanted told
  refused-cost TooCostly above = record { ready = ready; costs = above }
  refused-cost (Answer error.Memory) above = tt
  refused-cost (Answer (error.Variables fault)) above = absurd above
  refused-cost (Answer (error.Schema list)) above = absurd above
  refused-cost (Answer (error.Document list)) above = absurd above
  refused-cost (Answer (error.Request kind told)) above = absurd above

  pub unexecuted-cost : (before between after : ℕ) → between ≤ before + depth_looks wanted.introspection ready.meant.document ready.operation
      → after ≤ between + all_selections ready.meant.document ready.operation → (told : LimitedError) → IsUnexecuted wanted before after told
  unexecuted-cost before between after depth looks TooCostly = (ready, omega (arith, depth, looks))
  unexecuted-cost before between after depth looks (Answer refusal) = tt

-- want of memory has no other cause
module _ {A : Type 0} (limit : CostLimit) (wanted : Wanted) where
  pub memory-refused : (result : Result A LimitedError) → IfErr result IsForMemory → IfErr result (HasLimitedCauseOf limit wanted)
  memory-refused (Ok found) is = tt
  memory-refused (Err told) is = subst (HasLimitedCauseOf limit wanted) (sym is) tt

  pub memory-unexecuted : (before after : ℕ) (result : Result A LimitedError) → IfErr result IsForMemory → IfErr result (IsUnexecuted wanted before after)
  memory-unexecuted before after (Ok found) is = tt
  memory-unexecuted before after (Err told) is = subst (IsUnexecuted wanted before after) (sym is) tt
