use Rattle.std.proofs.Common.{refl}
use Rattle.std.specs.Prelude.{Err}
use Rattle.gql_engine.specs.declared.answer_error.AnswerError.TheVariants.{Memory}
use Rattle.gql_c.proofs.step.step_request.Goals as goal

-- out of memory is a refusal that any call may be given
pub returns-in-Err : goal.returns-in-Err
returns-in-Err c = record {
  result = Err Memory;
  gives = record { answered = tt; refused = tt; exact = λ error other cause. tt; valid = λ valid. refl };
  told = tt;
}
