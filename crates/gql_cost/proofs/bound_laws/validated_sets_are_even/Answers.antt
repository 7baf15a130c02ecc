use Rattle.gql_cost.proofs.Evens.{set-even}
use Rattle.gql_cost.proofs.bound_laws.validated_sets_are_even.Goals as goal

pub returns : goal.returns
returns g c = λ r root initial set fragments_typed covariant object typed merge.
    set-even r fragments_typed covariant root initial set.ty set.selections object typed merge
