use Rattle.std.proofs.Common.{arith}
use Rattle.std.proofs.lemmas.Grind.{common_steps}
use Rattle.jb_print.proofs.Compacts.{compact-Array}
use Rattle.gql_diag.proofs.refusal_text.append_errors.Goals as goal

pub returns : goal.returns
returns c = rw compact-Array (grind (arith, common_steps))
