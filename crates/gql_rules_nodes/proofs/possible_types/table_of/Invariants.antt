use Rattle.std.proofs.Common.{◌≡◌, [], drop, fold}
use Rattle.gql_rules_nodes.specs.Seen.{with_name}
use Rattle.gql_rules_nodes.proofs.possible_types.table_of.Given as goal

-- with those that are left it is the whole
abbrev pub invariant-loop-name : goal.invariant-loop-name
invariant-loop-name l = fold with_name l.table (drop l.name-index l.names) ≡ fold with_name [] l.names
