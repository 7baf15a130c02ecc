use Rattle.std.proofs.Common.{rules, ◌≡◌, [], ◌∷◌, ◌++◌}
use Rattle.gql_resolvers.specs.bridge.Seen.{seen}
use Rattle.gql_resolvers.specs.Fault.{fault_error, told_at}
use Rattle.gql_exec.specs.bridge.Executing.{world_of}
use Rattle.gql_exec.specs.bridge.Trails.{spot_of}
use Rattle.gql_exec.proofs.Done.{null-listed}
use Rattle.gql_exec.proofs.executing.Executing.refuse.Goals as goal

pub returns : goal.returns
returns g c =
    let w = world_of c.args.self.now g.O.ObjectValue.type_of g.O.ObjectValue.resolves in
    let spot = spot_of c.args.place.now in
    let fault = told_at (w.span_of spot.group) (seen c.args.misfit) in
    let listed : c.list.new.errors ≡ c.args.errors.now ++ fault_error w spot fault ∷ [] = search rules in
    null-listed w c.args.errors.now c.list.new.errors g.M.Output.is_made c.args.out.now c.null.new.out c.null.result spot fault listed c.null.ensures
