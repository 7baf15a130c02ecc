use Rattle.std.proofs.Common.{◌≡◌, ◌++◌, drop}
use Rattle.gql_cst.specs.bridge.Forest.{forest}
use Rattle.gql_ast_base.specs.Parts.{gather}
use Rattle.gql_ast_base.specs.NamedTypes.{named_type_of}
use Rattle.gql_ast_base.proofs.named_type.named_types.Given as goal

abbrev pub invariant-loop-node : goal.invariant-loop-node
invariant-loop-node l =
    l.list ++ gather (named_type_of l.source.text.now l.source.file_id) (forest (drop l.node-index l.nodes)) ≡ gather (named_type_of l.source.text.now l.source.file_id) (forest l.nodes)
