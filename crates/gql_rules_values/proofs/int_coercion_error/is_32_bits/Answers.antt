use Rattle.std.proofs.Common.{sym}
use Rattle.gql_rules_values.proofs.Whole.{is_whole, is_not_whole}
use Rattle.gql_rules_values.proofs.int_coercion_error.is_32_bits.Goals as goal

pub returns-in-Ok : goal.returns-in-Ok
returns-in-Ok c = sym (is_whole c.args.text.now c.in-Ok.ensures.value.0.0)

pub returns-in-Err : goal.returns-in-Err
returns-in-Err c = sym (is_not_whole c.args.text.now c.in-Err.ensures.value.0)
