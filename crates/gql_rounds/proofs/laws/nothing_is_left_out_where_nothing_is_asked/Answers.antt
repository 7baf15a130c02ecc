use Rattle.gql_rounds.proofs.AskedThings.{introspected-whole, plain-whole}
use Rattle.gql_rounds.proofs.laws.nothing_is_left_out_where_nothing_is_asked.Goals as goal

pub returns-clause-plain : goal.returns-clause-plain
returns-clause-plain c = λ subject table are. plain-whole subject.schema subject.document subject.variables table subject.root subject.selections are

pub returns-clause-introspected : goal.returns-clause-introspected
returns-clause-introspected c = λ subject table are.
    introspected-whole subject.schema subject.document subject.variables table subject.root subject.selections are
