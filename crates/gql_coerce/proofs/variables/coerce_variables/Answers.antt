use Rattle.gql_coerce.specs.Variables.{coerced_variables}
use Rattle.gql_coerce.proofs.variables.coerce_variables.Goals as goal

pub returns-in-Err : goal.returns-in-Err
returns-in-Err c =
    c.in-Err.ensures (coerced_variables c.args.schema.now.types c.args.definitions.now c.args.values.now) (rw c.as_ref.ensures at c.variable_values.ensures)
