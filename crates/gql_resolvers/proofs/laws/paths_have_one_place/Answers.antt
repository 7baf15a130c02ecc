use Rattle.gql_resolvers.proofs.OnePlace.{one_place}
use Rattle.gql_resolvers.proofs.laws.paths_have_one_place.Goals as goal

pub returns : goal.returns
returns types c = λ w lawful root initial all spot other outcome another one two same. one_place w root initial all lawful one two same
