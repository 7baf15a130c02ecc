use Rattle.std.proofs.Common.{◌≡◌, ◌++◌, drop}
use Rattle.gql_ast_base.specs.Forest.{plain}
use Rattle.gql_ast_base.specs.bridge.Forest.{forest}
use Rattle.gql_ast_base.specs.Parts.{head}
use Rattle.gql_ast_base.specs.bridge.Parts.{size}
use Rattle.gql_ast_base.specs.Values.{contents, values, members}
use Rattle.gql_ast_base.proofs.value.conversion.+value.Given as goal

-- nothing is added yet, and the first content is still to come
abbrev pub invariant-add_value-loop-node : goal.invariant-add_value-loop-node
invariant-add_value-loop-node l =
    (l.list ≡ l.fn.list) × (head (contents l.source.text.now l.source.file_id (forest (drop l.node-index l.parts))) ≡ head (contents l.source.text.now l.source.file_id (forest l.parts)))

abbrev pub invariant-values-loop-node : goal.invariant-values-loop-node
invariant-values-loop-node l = l.list ++ values l.source.text.now l.source.file_id (forest (drop l.node-index l.nodes)) ≡ values l.source.text.now l.source.file_id (forest l.nodes)

abbrev pub invariant-members-loop-node : goal.invariant-members-loop-node
invariant-members-loop-node l = l.list ++ members l.source.text.now l.source.file_id (forest (drop l.node-index l.nodes)) ≡ members l.source.text.now l.source.file_id (forest l.nodes)

abbrev pub decreases-values : goal.decreases-values
decreases-values l = size (forest l.nodes.now)

abbrev pub decreases-members : goal.decreases-members
decreases-members l = size (forest l.nodes.now)

abbrev pub decreases-add_value : goal.decreases-add_value
decreases-add_value l = size (plain l.tree.now).children
