use Rattle.std.proofs.Common.{◌+◌, ◌*◌, length}
use Rattle.gql_schema_rules.proofs.scalars.+add.Given as goal

abbrev pub decreases-add_missing : goal.decreases-add_missing
decreases-add_missing l = 2 * length l.names.now

abbrev pub decreases-add_first : goal.decreases-add_first
decreases-add_first l = 2 * length l.rest.now + 1
