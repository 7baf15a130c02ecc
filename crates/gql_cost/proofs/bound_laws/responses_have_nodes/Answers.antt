use Rattle.std.proofs.Common.{[], ◌∷◌, refl}
use Rattle.gql_cost.specs.Nodes.{nodes}
use Rattle.gql_exec.specs.RequestWorld.{plain_world}
use Rattle.gql_cost.proofs.bound_laws.responses_have_nodes.Goals as goal

pub returns : goal.returns
returns g c = λ r root initial selections response executed.
    (nodes (plain_world r) executed.depth root initial (selections ∷ []) response.root, record { depth = executed.depth; enough = executed.enough; is = refl })
