use Rattle.std.proofs.Common.{refl}
use Rattle.gql_engine.specs.Request.{asked_in}
use Rattle.gql_engine.specs.Reply.{wanted_of}
use Rattle.gql_cost.proofs.command.answer_request.Goals as goal

pub answer_by-requires : goal.answer_by-requires
answer_by-requires g c = c.in-Ok.ensures.made.is

pub returns-in-Err-clause-refused : goal.returns-in-Err-clause-refused
returns-in-Err-clause-refused g c = c.in-Err.ensures.refused (wanted_of (asked_in c.args.request.now)) refl
