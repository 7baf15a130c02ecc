use Rattle.gql_exec.proofs.Restricting.{restricting}
use Rattle.gql_exec.proofs.laws.partial_data_is_of_the_whole.Goals as goal

pub returns : goal.returns
returns g c = λ schema sources fragments variables types resolves U x selections whole part members own coerce is_whole is_part all.
    restricting schema sources fragments variables types resolves U x selections whole part members own coerce is_whole is_part all
