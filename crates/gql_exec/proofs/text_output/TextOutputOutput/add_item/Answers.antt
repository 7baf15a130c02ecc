use Rattle.std.proofs.Common.{◌++◌, codes, ap, ◌∙◌}
use Rattle.std.proofs.lemmas.Result.{on_ok_weaker}
use Rattle.gql_exec.proofs.OpenTexts.{list-added}
use Rattle.gql_exec.proofs.Outputs.{ok-text}
use Rattle.gql_exec.proofs.text_output.TextOutputOutput.add_item.Goals as goal

pub returns : goal.returns
returns c =
    on_ok_weaker c.push_str.result
    (λ added start before values value is made. list-added start before c.args.self.now _ c.args._list.now values value is made (added ∙ ap (λ t. t ++ codes ",") c.self.view_is))
    (ok-text c.push_str.result _ _ _ c.push_str.ensures.bytes)
