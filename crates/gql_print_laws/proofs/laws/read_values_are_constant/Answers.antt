-- What is read of a text is constant.
use Rattle.gql_print_laws.proofs.ConstantValues.{value_is_constant}
use Rattle.gql_print_laws.proofs.laws.read_values_are_constant.Goals as goal

pub returns : goal.returns
returns c = value_is_constant
