use Rattle.gql_gateway.proofs.Wholes.{whole-joined}
use Rattle.gql_gateway.proofs.part_laws.two_joined_are_the_whole.Goals as goal

pub returns : goal.returns
returns g c = λ schema sources fragments variables types resolves U x selections ranked own none pure kept whole part rest members is_whole is_part is_rest has.
    whole-joined schema sources fragments variables types resolves U x selections ranked.0 ranked.1 own none pure kept whole part rest members is_whole is_part is_rest has
