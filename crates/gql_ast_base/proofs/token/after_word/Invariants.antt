use Rattle.std.proofs.Common.{◌≡◌, drop}
use Rattle.gql_cst.specs.bridge.Forest.{forest}
use Rattle.gql_ast_base.specs.Parts.{after_word}
use Rattle.gql_ast_base.proofs.token.after_word.Given as goal

abbrev pub invariant-loop-index : goal.invariant-loop-index
invariant-loop-index l = after_word l.text l.left (forest (drop l.index l.nodes)) ≡ after_word l.text l.n (forest l.nodes)
