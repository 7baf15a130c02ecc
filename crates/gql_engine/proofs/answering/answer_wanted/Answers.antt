use Rattle.gql_engine.proofs.answering.answer_wanted.Goals as goal

pub returns-in-Ok : goal.returns-in-Ok
returns-in-Ok g c = λ schema query made. let given = c.in-Ok.ensures schema query made in record { answered = given.answered; looks = given.looks }

pub returns-in-Err : goal.returns-in-Err
returns-in-Err g c = c.in-Err.ensures
