use Rattle.gql_rounds.specs.Wanted.{request_by_table}
use Rattle.gql_rounds.proofs.Few.{few, rounds-so-far}
use Rattle.gql_rounds.proofs.laws.rounds_are_few.Goals as goal

pub returns : goal.returns
returns c = λ subject tables next ranked round later asks are.
    few (request_by_table subject.schema subject.document subject.variables (tables round)) subject.root subject.selections ranked.0 ranked.1 round later
    (rounds-so-far subject tables next round) asks are
