use Rattle.gql_coerce.specs.Variables.{coerced_variables}
use Rattle.gql_collect.proofs.variable_values.coerce_variable_values.Goals as goal

pub returns : goal.returns
returns c = c.tell_request.ensures (coerced_variables c.args.schema.now.types c.args.operation.now.variables c.args.values.now) c.coerce_variables.ensures
