-- Groups that stand for those of a selection when it is run.
use Rattle.std.specs.Prelude.{◌≡◌, ℕ, List}
use Rattle.gql_resolvers.specs.Depth.{AllGroups, Suffices}
use Rattle.gql_resolvers.specs.Execute.{execute, groups_made}
use Rattle.gql_resolvers.specs.Trail.{Trail}
use Rattle.gql_resolvers.specs.World.{World}

-- to some depth that cuts nothing off, executing these groups is executing the selection to a given depth
pub record RunsAs {X T G S : Type 0} (w : World X T G S) (given : ℕ) (U : T) (s : S) (gs : List G) : Type 0 where
  pub depth : ℕ
  pub enough : AllGroups w (λ g. (W : T) → Suffices w depth W (w.below g)) gs
  pub runs : (x : X) (outer : Trail) → execute w given U x outer s ≡ groups_made w (execute w depth) U x outer gs
