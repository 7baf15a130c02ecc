use Rattle.std.proofs.Common.{◌∙◌, ap}
use Rattle.gql_engine.specs.AtHand.{schema_text_in}
use Rattle.gql_engine.proofs.service.Service.schema_text.Goals as goal

pub returns : goal.returns
returns c = c.text_in.ensures ∙ ap schema_text_in c.as_ref.ensures ∙ c.self.view_is
