use Rattle.std.proofs.Common.{refl}
use Rattle.gql_engine.specs.Request.{asked_in}
use Rattle.gql_engine.specs.Reply.{wanted_of}
use Rattle.gql_checker.proofs.command.check_request.Goals as goal

pub check_by-requires : goal.check_by-requires
check_by-requires c = c.in-Ok.ensures.made.is

pub returns-in-Err-clause-refused : goal.returns-in-Err-clause-refused
returns-in-Err-clause-refused c = c.in-Err.ensures.refused (wanted_of (asked_in c.args.request.now)) refl
