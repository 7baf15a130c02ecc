use Rattle.std.proofs.Common.{arith}
use Rattle.gql_cst.proofs.Rowed.{begin-listed}
use Rattle.gql_cst.proofs.trees.TreesOutput.begin.Goals as goal

pub returns : goal.returns
returns c = λ os waiting node h. (begin-listed c.args.self.now.trees.items os c.args._kind _ c.args._place (omega (arith, c.len.ensures, c.args.self.now.trees.ok.0)) h.0, h.1)
