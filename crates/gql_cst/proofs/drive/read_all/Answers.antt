use Rattle.std.proofs.Common.{◌<◌, length, ◌∙◌, sym, ap, rules}
use Rattle.gql_cst.proofs.Going.{fault-ended}
use Rattle.gql_cst.proofs.drive.read_all.Goals as goal

pub returns-in-Err-clause-ended : goal.returns-in-Err-clause-ended
returns-in-Err-clause-ended g c =
    let i = c.loop-found.invariant in
    let old = c.loop-found.lexer in
    let some : old.place < length old.text = search rules in
    fault-ended g.O.Output.stands c.loop-found.parser old c.next_token.new.self c.in-Err.error i.going (i.text ∙ sym (ap (λ t. t.now) i.same.text)) some (rw c.in-Err.is at c.in-Some.ensures.fault)
