use Rattle.std.proofs.Common.{rules, refl}
use Rattle.gql_resolvers.specs.Fit.{wrong}
use Rattle.gql_resolvers.specs.Messages as message
use Rattle.gql_resolvers.specs.Resolved.{fails_with}
use Rattle.gql_exec.specs.bridge.Trails.{spot_of}
use Rattle.gql_response_check.proofs.Returning.{done-misfit}
use Rattle.gql_response_check.proofs.walk.Checking.check_failure.Goals as goal

pub returns : goal.returns
returns g c =
    done-misfit c.args.self.now.executing g.O.ObjectValue.type_of g.O.ObjectValue.resolves c.args.reported.now c.args.findings.now c.check_fault.new.findings c.check_fault.result
    (spot_of c.args.place.now) (fails_with c.args.error.now.message) (wrong (message.resolver_error c.args.error.now.message)) refl (search rules)
