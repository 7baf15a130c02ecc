use Rattle.std.proofs.Common.{Some, Err, ap, sym, subst, ◌∙◌}
use Rattle.std.proofs.lemmas.Result.{err_from_is_err_and}
use Rattle.jb_shape.specs.Outcome.{Answers}
use Rattle.gql_response.proofs.InTurn.{step, refuses, parts-found}
use Rattle.gql_response.proofs.parts.read_parts.Goals as goal

pub returns-in_err-put : goal.returns-in_err-put
returns-in_err-put g c =
    let put = g.P.Parts.put_gives in
    let p = err_from_is_err_and c.from_residual.result c.from_residual.ensures.1 in
    let whole = parts-found put c.args.parts c.args.value.now c.in-Some.members.now c.in-Some.ensures ∙ c.loop-index.invariant in
    rw (p.1, p.2) (subst (λ r. Answers r (Err c.in_err-put.field-0.0)) (sym whole) (refuses put c.in_err-put.field-0.0 c.loop-index.parts c.put.new.self c.in-Some.members.now c.loop-index.index c.as_str.result.now c.value_at.result.now
    (c.key_at.ensures ∙ ap Some (sym c.as_str.ensures)) c.value_at.ensures c.in_err-put.ensures))

pub loop-index-preserved : goal.loop-index-preserved
loop-index-preserved g c =
    c.loop-index.invariant
    ∙ step g.P.Parts.put_gives c.loop-index.parts c.put.new.self c.in-Some.members.now c.loop-index.index c.as_str.result.now c.value_at.result.now
    (c.key_at.ensures ∙ ap Some (sym c.as_str.ensures)) c.value_at.ensures c.in_ok-put.ensures
