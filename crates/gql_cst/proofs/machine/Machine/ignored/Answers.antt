use Rattle.std.proofs.Common.{refl}
use Rattle.gql_cst.proofs.Driven.{ignored-held}
use Rattle.gql_cst.proofs.machine.Machine.ignored.Goals as goal

pub returns : goal.returns
returns g c = ignored-held g.O.Output.stands c.args.self.now _ c.args.range refl refl refl refl c.in_ok-ignored.ensures
