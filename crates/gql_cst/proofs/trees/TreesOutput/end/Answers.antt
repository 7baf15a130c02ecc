use Rattle.std.proofs.Common.{ap}
use Rattle.gql_cst.proofs.Rowed.{end-listed}
use Rattle.gql_cst.proofs.trees.TreesOutput.end.Goals as goal

pub returns : goal.returns
returns c = λ at inner outer os waiting e h. (end-listed c.args.kind c.args.self.now.trees.items _ c.args.begun c.in_ok-gather.ensures inner outer os (ap (λ n. n.begun) e) h.0, h.1)
