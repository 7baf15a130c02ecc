use Rattle.std.proofs.Common.{◌≡◌, drop}
use Rattle.gql_cst.specs.bridge.Forest.{forest}
use Rattle.gql_ast.specs.Documents.{choice_of}
use Rattle.gql_ast_base.specs.Parts.{first}
use Rattle.gql_ast.proofs.definition.first_choice.Given as goal

abbrev pub invariant-loop-node : goal.invariant-loop-node
invariant-loop-node l = first (choice_of l.source.text.now l.source.file_id) (forest (drop l.node-index l.nodes)) ≡ first (choice_of l.source.text.now l.source.file_id) (forest l.nodes)
