use Rattle.std.proofs.Common.{refl}
use Rattle.gql_cst.proofs.Going.{made-of}
use Rattle.gql_cst.proofs.parser.Parser.made.Goals as goal

pub returns : goal.returns
returns g c = made-of g.O.Output.stands c.args.self c.args.error _ refl c.deepest-recursion_reached.ensures refl c.requires c.in_ok-out.ensures
