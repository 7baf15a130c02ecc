use Rattle.gql_exec.proofs.OpenTexts.{member-added}
use Rattle.gql_exec.proofs.text_output.TextOutputOutput.add_member.Goals as goal

pub returns : goal.returns
returns c = λ start before so_far value keyed made. member-added start before c.args.self.now c.args.object.now so_far c.args._key.now.text value keyed made
