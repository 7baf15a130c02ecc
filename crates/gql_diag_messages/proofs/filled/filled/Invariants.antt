use Rattle.std.proofs.Common.{◌≡◌, ◌++◌, length, string_bytes}
use Rattle.gql_diag_messages.specs.Filled.{filled}
use Rattle.gql_diag_messages.proofs.filled.filled.Given as goal

abbrev pub invariant-loop-rest : goal.invariant-loop-rest
invariant-loop-rest l = string_bytes l.out ++ filled l.rest l.names ≡ filled l.fn.pattern l.names

abbrev pub decreases-loop-rest : goal.decreases-loop-rest
decreases-loop-rest l = length l.rest
