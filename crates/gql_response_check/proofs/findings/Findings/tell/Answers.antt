use Rattle.std.proofs.Common.{rules}
use Rattle.gql_checker_laws.proofs.Keys.{told-past}
use Rattle.gql_response_check.specs.bridge.Views.{findings_of}
use Rattle.gql_response_check.proofs.findings.Findings.tell.Goals as goal

pub returns-in_default : goal.returns-in_default
returns-in_default c = told-past (findings_of c.args.self.now) c.args.number (search rules)
