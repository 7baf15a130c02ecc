use Rattle.gql_checker_laws.proofs.Finding.{found-nothing, found-both, found-ended, found-told}
use Rattle.gql_checker_laws.proofs.places.findings_add_up.Goals as goal

pub returns-clause-none : goal.returns-clause-none
returns-clause-none c it = found-nothing it

pub returns-clause-two : goal.returns-clause-two
returns-clause-two c a b before between after p q one other = found-both a b before between after p q one other

pub returns-clause-inside : goal.returns-clause-inside
returns-clause-inside c inner given strict path v before between after p q quiet plain inside own =
    found-ended inner given strict path v before between after p q quiet plain inside own

pub returns-clause-fault : goal.returns-clause-fault
returns-clause-fault c comes strict told path v before between after q is own = found-told comes strict told path v before between after q is own
