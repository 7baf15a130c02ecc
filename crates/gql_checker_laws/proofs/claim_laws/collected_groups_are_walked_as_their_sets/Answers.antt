use Rattle.gql_checker_laws.proofs.AlikeFound.{views-walk, views-members, views-keys}
use Rattle.gql_checker_laws.proofs.claim_laws.collected_groups_are_walked_as_their_sets.Goals as goal

pub returns-clause-walk : goal.returns-clause-walk
returns-clause-walk types c r U groups sets same depth enough = views-walk r U groups sets same depth enough

pub returns-clause-members : goal.returns-clause-members
returns-clause-members types c r U groups sets same v = views-members r U groups sets same v

pub returns-clause-keys : goal.returns-clause-keys
returns-clause-keys types c r U groups sets same ms = views-keys r U groups sets same ms
