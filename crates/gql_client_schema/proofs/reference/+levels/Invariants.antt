use Rattle.std.proofs.Common.{◌+◌, ◌*◌}
use Rattle.gql_client_schema.proofs.reference.+levels.Given as goal

-- the levels that are left, and the steps of one
abbrev pub decreases-linked : goal.decreases-linked
decreases-linked l = 4 * l.left + 3

abbrev pub decreases-inner : goal.decreases-inner
decreases-inner l = 4 * l.left + 2

abbrev pub decreases-inside : goal.decreases-inside
decreases-inside l = 4 * l.left + 1

abbrev pub decreases-nested : goal.decreases-nested
decreases-nested l = 4 * l.left
