use Rattle.gql_valid_laws.proofs.Coercion.{variables-unmarked}
use Rattle.gql_valid_laws.proofs.coercion_laws.input_types_leave_no_mark.Goals as goal

pub returns : goal.returns
returns c types variables values fields inputs = variables-unmarked types fields variables values inputs
