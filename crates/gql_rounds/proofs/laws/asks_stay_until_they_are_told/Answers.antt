use Rattle.gql_rounds.specs.Wanted.{root_stand}
use Rattle.gql_rounds.proofs.TwoTables.{stays}
use Rattle.gql_rounds.proofs.laws.asks_stay_until_they_are_told.Goals as goal

pub returns : goal.returns
returns c = λ subject old new more depth.
    stays subject.schema subject.document subject.variables old new more (root_stand subject.root subject.selections) depth
