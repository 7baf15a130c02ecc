use Rattle.std.proofs.Common.{ap, refl, sym, ◌∙◌}
use Rattle.gql_engine.specs.Request.{asked_in}
use Rattle.gql_engine.specs.AtHand.{TwoTexts}
use Rattle.gql_engine.specs.Reply.{wanted_of}
use Rattle.gql_cost.proofs.command.answer_by.Goals as goal

pub answer_out_of_data-requires-clause-schema : goal.answer_out_of_data-requires-clause-schema
answer_out_of_data-requires-clause-schema g c = ap (λ (two : TwoTexts). two.schema) c.in-Ok.ensures.made.is ∙ c.requires

pub answer_out_of_data-requires-clause-query : goal.answer_out_of_data-requires-clause-query
answer_out_of_data-requires-clause-query g c = ap (λ (two : TwoTexts). two.query) c.in-Ok.ensures.made.is

pub returns-in-Err-clause-refused : goal.returns-in-Err-clause-refused
returns-in-Err-clause-refused g c = c.in-Err.ensures.refused (wanted_of (asked_in c.args.request.now)) (sym c.requires) refl
