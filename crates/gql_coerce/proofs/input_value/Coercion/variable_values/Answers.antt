use Rattle.std.proofs.Common.{ap, sym, ◌∙◌, ◌+◌, drop, arith}
use Rattle.gql_coerce.specs.Variables.{variable_value, variable_name}
use Rattle.gql_coerce.specs.Filled.{filled, with_value}
use Rattle.gql_coerce.proofs.Steps.{filled-next, filled-stop, stops}
use Rattle.gql_coerce.proofs.input_value.Coercion.variable_values.Goals as goal

pub returns-in-Err : goal.returns-in-Err
returns-in-Err c =
    let value = variable_value c.args.self.now.types.now c.args.values.now in
    let items = c.as_slice-definition-items.result.now in
    let variable = c.definition-item.result in
    stops (value variable) _ c.in-Err.refused
    (λ fault failed. sym c.loop-definition.invariant ∙ filled-stop value variable_name c.loop-definition.made items c.loop-definition.definition-index variable fault (omega arith) c.definition-item.is failed)
    c.in-Err.ensures

pub loop-definition-preserved : goal.loop-definition-preserved
loop-definition-preserved c =
    let value = variable_value c.args.self.now.types.now c.args.values.now in
    let items = c.as_slice-definition-items.result.now in
    let variable = c.definition-item.result in
    let i = c.loop-definition.definition-index in
    ap (λ made. filled value variable_name made (drop (i + 1) items)) (c.in_ok-put-in-Ok.ensures ∙ ap (λ key. with_value c.loop-definition.made key c.in-Ok.found) c.as_str.ensures.text)
    ∙ sym (filled-next value variable_name c.loop-definition.made items i variable c.in-Ok.found (omega arith) c.definition-item.is c.in-Ok.ensures)
    ∙ c.loop-definition.invariant
