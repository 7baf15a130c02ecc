use Rattle.gql_checker_laws.specs.Claims.{first_missing}
use Rattle.gql_checker_laws.proofs.Keys.{further-none}
use Rattle.gql_response_check.proofs.findings.Findings.first_untold.Goals as goal

pub loop-number-init : goal.loop-number-init
loop-number-init c = further-none (first_missing c.args.self.now.told)
