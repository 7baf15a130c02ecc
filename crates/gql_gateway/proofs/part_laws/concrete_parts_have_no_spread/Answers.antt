use Rattle.gql_gateway.proofs.Spreads.{concrete-none}
use Rattle.gql_gateway.proofs.part_laws.concrete_parts_have_no_spread.Goals as goal

pub returns : goal.returns
returns c = λ selections none. concrete-none selections none
