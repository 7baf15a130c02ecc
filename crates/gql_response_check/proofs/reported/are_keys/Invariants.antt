use Rattle.std.proofs.Common.{◌≡◌, drop}
use Rattle.gql_collect.specs.Plan.{groups_in}
use Rattle.gql_checker_laws.specs.Reported.{have_keys}
use Rattle.gql_response_check.proofs.reported.are_keys.Given as goal

abbrev pub invariant-loop-number : goal.invariant-loop-number
invariant-loop-number l = have_keys (drop l.number (groups_in l.parts)) (drop l.number l.members) ≡ have_keys (groups_in l.parts) l.members
