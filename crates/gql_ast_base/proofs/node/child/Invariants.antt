use Rattle.std.proofs.Common.{◌≡◌, drop}
use Rattle.gql_cst.specs.bridge.Forest.{forest}
use Rattle.gql_ast_base.specs.Parts as parts
use Rattle.gql_ast_base.proofs.node.child.Given as goal

abbrev pub invariant-loop-node : goal.invariant-loop-node
invariant-loop-node l = parts.child l.kind (forest (drop l.node-index l.nodes)) ≡ parts.child l.kind (forest l.nodes)
