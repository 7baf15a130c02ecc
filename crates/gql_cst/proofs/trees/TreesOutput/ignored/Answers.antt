use Rattle.gql_cst.proofs.Rowed.{pushed-listed}
use Rattle.gql_cst.proofs.trees.TreesOutput.ignored.Goals as goal

pub returns : goal.returns
returns c = λ at os waiting h. (h.0, pushed-listed c.args.self.now.waiting.items _ c.leaf-leaf.result waiting _ c.in_ok-push.ensures.items c.leaf-leaf.ensures h.1)
