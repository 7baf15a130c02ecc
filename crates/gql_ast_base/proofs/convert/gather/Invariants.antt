use Rattle.std.proofs.Common.{◌≡◌, ◌++◌, drop}
use Rattle.gql_cst.specs.bridge.Forest.{forest}
use Rattle.gql_ast_base.specs.Parts as parts
use Rattle.gql_ast_base.proofs.convert.gather.Given as goal

-- what is found and what is left make the whole
abbrev pub invariant-loop-node : goal.invariant-loop-node
invariant-loop-node g l =
    l.list ++ parts.gather (g.T.Convert.meaning l.source.text.now l.source.file_id) (forest (drop l.node-index l.nodes)) ≡ parts.gather (g.T.Convert.meaning l.source.text.now l.source.file_id) (forest l.nodes)
