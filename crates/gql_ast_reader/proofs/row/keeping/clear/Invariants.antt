use Rattle.std.proofs.Common.{◌≡◌, length}
use Rattle.gql_ast_reader.proofs.row.keeping.clear.Given as goal

abbrev pub invariant-loop-taken : goal.invariant-loop-taken
invariant-loop-taken g l = length l.list ≡ length l.list

abbrev pub decreases-loop-taken : goal.decreases-loop-taken
decreases-loop-taken g l = length l.list
