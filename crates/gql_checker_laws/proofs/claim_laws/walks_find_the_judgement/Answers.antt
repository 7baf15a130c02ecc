use Rattle.gql_checker_laws.proofs.Judged.{judged}
use Rattle.gql_checker_laws.proofs.claim_laws.walks_find_the_judgement.Goals as goal

pub returns : goal.returns
returns types c = λ r ranked root initial selections response passes findings found.
    judged r ranked.0 ranked.1 root initial selections response passes findings found
