use Rattle.gql_gateway.proofs.Wholes.{nothing-missing}
use Rattle.gql_gateway.proofs.part_laws.nothing_is_missing.Goals as goal

pub returns : goal.returns
returns g c = λ schema sources fragments variables types resolves U x selections ranked none pure kept here rest lacking is_rest lacks.
    nothing-missing schema sources fragments variables types resolves U x selections ranked.0 ranked.1 none pure kept here rest lacking is_rest lacks
