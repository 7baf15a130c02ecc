use Rattle.gql_exec.specs.bridge.Trails.{spot_of}
use Rattle.gql_response_check.proofs.Returning.{done-skip}
use Rattle.gql_response_check.proofs.walk.Checking.check_skip.Goals as goal

pub returns : goal.returns
returns g c =
    done-skip c.args.self.now.executing g.O.ObjectValue.type_of g.O.ObjectValue.resolves c.args.reported.now c.args.findings.now c.settle_place.new.findings c.settle_place.result
    (spot_of c.args.place.now) c.settle_place.ensures
