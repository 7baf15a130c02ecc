use Rattle.std.proofs.Common.{[]}
use Rattle.gql_gateway.proofs.Wholes.{of-nothing}
use Rattle.gql_gateway.proofs.part_laws.nothing_is_executed.Goals as goal

pub returns : goal.returns
returns g c = λ schema sources fragments variables types resolves U x. of-nothing schema sources fragments variables types resolves U x []
