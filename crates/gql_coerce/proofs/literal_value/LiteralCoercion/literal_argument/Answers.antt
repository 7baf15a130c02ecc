use Rattle.gql_coerce.specs.Subject.{argument_words}
use Rattle.gql_coerce.specs.InputTypes.{field_name}
use Rattle.gql_coerce.specs.LiteralValue.{coerced_literal}
use Rattle.gql_coerce.proofs.literal_value.LiteralCoercion.literal_argument.Goals as goal

pub returns : goal.returns
returns c =
    c.given_value.ensures (coerced_literal c.args.self.now.coercion.types.now c.args.self.now.env.now c.args.literal.now (argument_words (field_name c.args.definition.now)) c.args.definition.now.ty)
    (rw c.as_str.ensures.text at c.coerce_literal.ensures)
