use Rattle.std.proofs.Common.{◌∙◌, ap}
use Rattle.gql_engine.specs.AtHand.{TwoTexts, query_text_in}
use Rattle.gql_engine.proofs.prepared.Prepared.query_text.Goals as goal

pub returns : goal.returns
returns c = c.text_in.ensures ∙ ap query_text_in c.as_ref.ensures ∙ ap (λ (texts : TwoTexts). texts.query) c.self.view_is
