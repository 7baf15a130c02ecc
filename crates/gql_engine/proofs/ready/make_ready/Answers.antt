use Rattle.std.proofs.Common.{refl}
use Rattle.gql_engine.proofs.ready.make_ready.Goals as goal

pub returns-in-Err : goal.returns-in-Err
returns-in-Err g c = c.in-Err.ensures

pub returns-in-Err-check_depth : goal.returns-in-Err-check_depth
returns-in-Err-check_depth g c = c.in-Err-check_depth.ensures.shallow

pub returns-in-Ok-coerce : goal.returns-in-Ok-coerce
returns-in-Ok-coerce g c = λ schema query mean. record {
  meant = mean;
  is_chosen = c.in-Ok.ensures;
  is_shallow = c.in-Ok-check_depth.ensures.shallow;
  are_coerced = c.in-Ok-coerce.ensures;
  introspection = refl;
  rises = c.check_depth.ensures.rises;
  depth = c.check_depth.ensures.looks;
}

pub returns-in-Err-coerce : goal.returns-in-Err-coerce
returns-in-Err-coerce g c = c.in-Err-coerce.ensures
