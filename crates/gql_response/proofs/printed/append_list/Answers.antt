use Rattle.std.proofs.Common.{arith}
use Rattle.std.proofs.lemmas.Grind.{common_steps}
use Rattle.jb_print.proofs.Compacts.{compact-Array}
use Rattle.gql_response.proofs.printed.append_list.Goals as goal

pub returns : goal.returns
returns g c = rw compact-Array (grind (arith, common_steps))
