use Rattle.gql_engine.proofs.reply.WishRequestCommand.reply.Goals as goal

pub returns-in-Check-clause-is : goal.returns-in-Check-clause-is
returns-in-Check-clause-is g c = rw c.in-Check.is (c.checked.ensures.is c.args.steps.now)
