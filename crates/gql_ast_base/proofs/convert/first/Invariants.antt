use Rattle.std.proofs.Common.{◌≡◌, drop}
use Rattle.gql_cst.specs.bridge.Forest.{forest}
use Rattle.gql_ast_base.specs.Parts as parts
use Rattle.gql_ast_base.proofs.convert.first.Given as goal

abbrev pub invariant-loop-node : goal.invariant-loop-node
invariant-loop-node g l =
    parts.first (g.T.Convert.meaning l.source.text.now l.source.file_id) (forest (drop l.node-index l.nodes)) ≡ parts.first (g.T.Convert.meaning l.source.text.now l.source.file_id) (forest l.nodes)
