use Rattle.std.proofs.Common.{◌≡◌, drop}
use Rattle.gql_cst.specs.bridge.Forest.{forest}
use Rattle.gql_ast_base.specs.Parts.{nth_word}
use Rattle.gql_ast_base.proofs.token.nth_found.Given as goal

abbrev pub invariant-loop-node : goal.invariant-loop-node
invariant-loop-node l = nth_word l.text l.left (forest (drop l.node-index l.nodes)) ≡ nth_word l.text l.n (forest l.nodes)
