use Rattle.std.proofs.Common.{◌≡◌, [], drop}
use Rattle.gql_coerce.specs.Filled.{filled}
use Rattle.gql_coerce.specs.Variables.{variable_value, variable_name}
use Rattle.gql_coerce.proofs.input_value.Coercion.variable_values.Given as goal

abbrev pub invariant-loop-definition : goal.invariant-loop-definition
invariant-loop-definition l =
    let value = variable_value l.self.types.now l.values in
    filled value variable_name l.made (drop l.definition-index l.definition-items) ≡ filled value variable_name [] l.definitions
