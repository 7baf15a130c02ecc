use Rattle.std.proofs.Common.{ap, map}
use Rattle.gql_cst.specs.Forest.{plain}
use Rattle.gql_cst.proofs.Rowed.{token-listed}
use Rattle.gql_cst.proofs.trees.TreesOutput.token.Goals as goal

pub returns : goal.returns
returns c = λ inner os waiting next h. (
  token-listed c.args.self.now.trees.items c.args.self.now.waiting.items _ _ c.leaf-leaf.result _ inner os waiting c.in_ok-append.ensures.items c.in_ok-push.ensures.items c.leaf-leaf.ensures h.1 h.0,
  ap (map plain) c.in_ok-append.ensures.other_items,
)
