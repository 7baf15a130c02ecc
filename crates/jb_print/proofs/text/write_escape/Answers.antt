use Rattle.std.proofs.Common.{rules, arith}
use Rattle.std.proofs.lemmas.Grind.{common_steps}
use Rattle.jb_print.specs.Quoted.{escaped}
use Rattle.jb_print.proofs.Escapes.{control}
use Rattle.jb_print.proofs.text.write_escape.Goals as goal

pub returns-in-Some : goal.returns-in-Some
unfolding escaped
returns-in-Some c = search rules

pub returns-in_ok-push-in-None : goal.returns-in_ok-push-in-None
unfolding escaped
returns-in_ok-push-in-None c = grind (arith, common_steps, control)
