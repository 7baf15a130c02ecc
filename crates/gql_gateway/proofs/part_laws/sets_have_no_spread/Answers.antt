use Rattle.gql_gateway.proofs.Spreads.{spreadless}
use Rattle.gql_gateway.proofs.part_laws.sets_have_no_spread.Goals as goal

pub returns : goal.returns
returns c = λ selections none. spreadless selections none
