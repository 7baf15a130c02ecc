use Rattle.gql_rules.proofs.Known.{known}
use Rattle.gql_rules.proofs.variables.Variables.new.Goals as goal

pub invariant_of-result : goal.invariant_of-result
invariant_of-result c = record { known = known c.in_ok-table.table c.args.definitions.now c.in_ok-table.ensures }
