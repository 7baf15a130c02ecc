use Rattle.std.proofs.Common.{refl}
use Rattle.gql_cst.proofs.Driven.{wrapped-held}
use Rattle.gql_cst.proofs.machine.Machine.wrap.Goals as goal

pub returns : goal.returns
returns g c = wrapped-held g.O.Output.stands c.args.self.now _ c.args.kind refl refl refl refl c.requires c.in_ok-wrap.ensures
