use Rattle.std.proofs.Common.{rules, ◌≡◌, [], ◌∷◌, ◌++◌}
use Rattle.gql_resolvers.specs.Fault.{fault_error}
use Rattle.gql_exec.specs.Asks.{fault_of}
use Rattle.gql_exec.specs.bridge.Executing.{world_of}
use Rattle.gql_exec.specs.bridge.Trails.{spot_of}
use Rattle.gql_exec.proofs.Done.{null-listed}
use Rattle.gql_exec.proofs.executing.Executing.refuse_argument.Goals as goal

pub returns : goal.returns
returns g c =
    let w = world_of c.args.self.now g.O.ObjectValue.type_of g.O.ObjectValue.resolves in
    let spot = spot_of c.args.place.now in
    let fault = fault_of c.args.fault in
    let listed : c.list.new.errors ≡ c.args.errors.now ++ fault_error w spot fault ∷ [] = search rules in
    null-listed w c.args.errors.now c.list.new.errors g.M.Output.is_made c.args.out.now c.null.new.out c.null.result spot fault listed c.null.ensures
