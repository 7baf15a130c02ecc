use Rattle.gql_coerce.specs.Arguments.{coerced_arguments}
use Rattle.gql_coerce.proofs.arguments.coerce_arguments.Goals as goal

pub returns : goal.returns
returns c =
    c.tell_arguments.ensures (coerced_arguments c.args.schema.now.types c.args.variables.now c.args.definition.now.arguments c.args.arguments.now)
    (rw c.as_ref-2.ensures at (rw c.as_ref.ensures at c.argument_values.ensures))
