use Rattle.std.proofs.Common.{◌++◌, codes, ap, ◌∙◌}
use Rattle.gql_exec.proofs.OpenTexts.{object-ended}
use Rattle.gql_exec.proofs.Outputs.{ok-text, ok-then}
use Rattle.gql_exec.proofs.text_output.TextOutputOutput.end_object.Goals as goal

pub returns : goal.returns
returns c =
    ok-then c.push_str.result _ _
    (λ added start all is. object-ended start c.args.self.now _ c.args._object all is (added ∙ ap (λ t. t ++ codes "}") c.self.view_is))
    (ok-text c.push_str.result _ _ _ c.push_str.ensures.bytes)
