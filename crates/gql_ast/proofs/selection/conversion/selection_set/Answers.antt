use Rattle.std.proofs.Common.{◌∙◌}
use Rattle.gql_ast_base.specs.bridge.Forest.{forest}
use Rattle.gql_ast.proofs.Selected.{selections-gathered}
use Rattle.gql_ast.proofs.selection.conversion.selection_set.Goals as goal

pub returns : goal.returns
returns c = c.in_ok-made.ensures ∙ selections-gathered c.args.source.now.text.now c.args.source.now.file_id (forest c.args.nodes.now)
