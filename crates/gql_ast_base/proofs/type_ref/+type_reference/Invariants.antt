use Rattle.std.proofs.Common.{◌≡◌, ◌+◌, ◌*◌, drop}
use Rattle.gql_ast_base.specs.Forest.{plain}
use Rattle.gql_ast_base.specs.bridge.Forest.{forest}
use Rattle.gql_ast_base.specs.Parts.{head}
use Rattle.gql_ast_base.specs.bridge.Parts.{size}
use Rattle.gql_ast_base.specs.Types.{types, forms}
use Rattle.gql_ast_base.proofs.type_ref.+type_reference.Given as goal

abbrev pub invariant-first_type_form-loop-node : goal.invariant-first_type_form-loop-node
invariant-first_type_form-loop-node l = head (forms l.source.text.now l.source.file_id (forest (drop l.node-index l.nodes))) ≡ head (forms l.source.text.now l.source.file_id (forest l.nodes))

abbrev pub invariant-first_type-loop-node : goal.invariant-first_type-loop-node
invariant-first_type-loop-node l = head (types l.source.text.now l.source.file_id (forest (drop l.node-index l.nodes))) ≡ head (types l.source.text.now l.source.file_id (forest l.nodes))

abbrev pub decreases-first_type_form : goal.decreases-first_type_form
decreases-first_type_form l = 2 * size (forest l.nodes.now)

abbrev pub decreases-first_type : goal.decreases-first_type
decreases-first_type l = 2 * size (forest l.nodes.now)

abbrev pub decreases-type_form : goal.decreases-type_form
decreases-type_form l = 2 * size (plain l.tree.now).children + 1
