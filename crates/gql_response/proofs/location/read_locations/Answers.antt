use Rattle.std.proofs.Common.{ap, refl, sym, ◌∙◌, subst, List, Option, Some, Ok, Err, arith}
use Rattle.std.proofs.lemmas.Result.{err_from_is_err_and}
use Rattle.jb_tree.specs.declared.value.Value.{Value}
use Rattle.jb_shape.specs.Outcome.{Answers, and_then, each}
use Rattle.jb_shape.specs.Scalars.{of_kind}
use Rattle.jb_shape.proofs.Each.{each_more, stops_answer}
use Rattle.gql_response.specs.Reading.{read_location}
use Rattle.gql_response.proofs.location.read_locations.Goals as goal

pub returns-in_err-read_location : goal.returns-in_err-read_location
returns-in_err-read_location c =
    let p = err_from_is_err_and c.from_residual.result c.from_residual.ensures.1 in
    let refused = c.in_err-read_location.field-0.0 in
    let xs = c.as_slice-value-items.result.now in
    rw (p.1, p.2)
    (subst (λ (found : Option (List Value)). Answers (and_then (of_kind found) (each read_location)) (Err refused))
    (ap Some c.as_slice-value-items.ensures ∙ c.in-Some.ensures)
    (stops_answer read_location xs xs c.loop-value.value-index c.value-item.result c.loop-value.locations refused refl
    (omega arith) c.value-item.is c.loop-value.invariant c.in_err-read_location.ensures))

pub loop-value-preserved : goal.loop-value-preserved
loop-value-preserved c =
    each_more read_location c.as_slice-value-items.result.now c.loop-value.value-index c.value-item.result c.loop-value.locations c.in_ok-read_location.field-0
    (omega arith) c.value-item.is c.loop-value.invariant c.in_ok-read_location.ensures
    ∙ ap Ok (sym c.in_ok-push.ensures.pushed)
