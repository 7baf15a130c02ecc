use Rattle.gql_engine.specs.Wanted.{wanted_over}
use Rattle.gql_engine.proofs.responding.respond_on.Goals as goal

pub execute-requires : goal.execute-requires
execute-requires g c =
    (wanted_over c.requires.0 c.requires.1 c.args.wanted.now, c.args.steps.now, c.make_ready.new.steps, c.in-Ok.ensures c.requires.0 c.requires.1 c.requires.2)

pub returns-in_ok-execute-in-Ok : goal.returns-in_ok-execute-in-Ok
returns-in_ok-execute-in-Ok g c = λ schema query mean.
    c.in_ok-execute-in-Ok.ensures.responds (wanted_over schema query c.args.wanted.now) c.args.steps.now (c.in-Ok.ensures schema query mean)

pub returns-in-Err : goal.returns-in-Err
returns-in-Err g c = c.in-Err.ensures
