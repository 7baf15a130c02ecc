-- Guards of a count of levels.
use Rattle.std.specs.Prelude.{◌≡◌, ℕ, Option, Some, Result}
use Rattle.std.specs.Borrow.{Fml, MutBor, follows_if, name_if_ok}
use Rattle.gql_diag.specs.declared.depth.DepthGuard.{DepthGuard}
use Rattle.gql_diag.specs.contracts.depth.DepthCounter.{the_row}
use Rattle.gql_diag.specs.Depth.{Depth}
use Rattle.gql_diag.specs.bridge.Depth.{deeper}

-- the count that it guards
abbrev pub counted : DepthGuard → Depth
counted guard = guard.counter.now

-- the levels that were open before the step that gave it, if a step did
abbrev pub undoes : DepthGuard → Option ℕ
undoes guard = guard.undo

-- the guard of one level more, which steps back when it is dropped
pub record IsStep (before : Depth) (guard : DepthGuard) : Type 0 where
  pub deeper : counted guard ≡ deeper before
  pub back : undoes guard ≡ Some before.depth

-- A refused step leaves the counter as it is. Once the guard of a step is gone, the counter is what that guard left.
abbrev pub LeavesCount : {E : Type 0} → MutBor Depth → Result DepthGuard E → Fml
LeavesCount lender step =
    follows_if the_row the_row lender.ghost_name (name_if_ok (λ guard. guard.counter.ghost_name) step) (λ count. count) lender.now
