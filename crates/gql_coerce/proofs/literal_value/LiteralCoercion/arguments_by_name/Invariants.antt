use Rattle.std.proofs.Common.{◌≡◌, [], drop}
use Rattle.gql_coerce.specs.Filled.{filled}
use Rattle.gql_coerce.specs.InputTypes.{field_name}
use Rattle.gql_coerce.specs.Arguments.{argument_value}
use Rattle.gql_coerce.proofs.literal_value.LiteralCoercion.arguments_by_name.Given as goal

abbrev pub invariant-loop-definition : goal.invariant-loop-definition
invariant-loop-definition l =
    let value = argument_value l.self.coercion.types.now l.self.env.now l.arguments in
    filled value field_name l.made (drop l.definition-index l.definition-items) ≡ filled value field_name [] l.definitions
