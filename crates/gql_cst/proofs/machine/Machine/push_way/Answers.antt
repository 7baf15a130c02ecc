use Rattle.std.proofs.Common.{refl}
use Rattle.gql_cst.proofs.Driven.{pushed-held}
use Rattle.gql_cst.proofs.machine.Machine.push_way.Goals as goal

pub returns : goal.returns
returns g c = pushed-held g.O.Output.stands c.args.self.now _ refl c.in_ok-push.ensures.items refl refl refl
