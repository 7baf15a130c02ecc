use Rattle.gql_cst.proofs.Rowed.{wrap-listed}
use Rattle.gql_cst.proofs.trees.TreesOutput.wrap.Goals as goal

pub returns : goal.returns
returns c = λ at inner os waiting late e h. (wrap-listed c.args.kind c.args.self.now.trees.items _ c.args.begun c.in_ok-gather.ensures inner os e h.0, h.1)
