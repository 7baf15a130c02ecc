use Rattle.std.proofs.Common.{ap, sym, ◌∙◌}
use Rattle.std.specs.Str.{bytes_eq}
use Rattle.std.specs.Map.{lookup}
use Rattle.gql_coerce.specs.Subject.{variable_words}
use Rattle.gql_coerce.specs.InputValue.{coerced}
use Rattle.gql_coerce.specs.Variables.{variable_name}
use Rattle.gql_coerce.proofs.Steps.{answered}
use Rattle.gql_coerce.proofs.VariableLemmas.{variable-given, variable-absent}
use Rattle.gql_coerce.proofs.input_value.Coercion.variable_value.Goals as goal

pub returns-in-Some : goal.returns-in-Some
returns-in-Some c =
    let types = c.args.self.now.types.now in
    let values = c.args.values.now in
    let variable = c.args.definition.now in
    let value = c.in-Some.value.now in
    answered _ _ _ (variable-given types values variable value (ap (λ key. lookup (bytes_eq key) values) (sym c.as_str-name.ensures.text) ∙ sym c.in-Some.ensures))
    (c.given_value.ensures (coerced types value (variable_words (variable_name variable)) variable.ty) (rw c.new.ensures.ty at (rw c.as_str-name.ensures.text at c.coerce_value.ensures)))

pub returns-in-None : goal.returns-in-None
returns-in-None c =
    let values = c.args.values.now in
    answered _ _ _ (variable-absent c.args.self.now.types.now values c.args.definition.now (ap (λ key. lookup (bytes_eq key) values) (sym c.as_str-name.ensures.text) ∙ sym c.in-None.ensures))
    (rw c.as_str-name.ensures.text at c.not_given.ensures)
