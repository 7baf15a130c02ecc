use Rattle.std.proofs.Common.{◌≡◌, ◌++◌, length, string_bytes}
use Rattle.gql_diag_messages.specs.NamedType.{named_type}
use Rattle.gql_diag_messages.proofs.named_type.named_type.Given as goal

abbrev pub invariant-loop-rest : goal.invariant-loop-rest
invariant-loop-rest l = string_bytes l.out ++ named_type l.rest ≡ named_type l.fn.type_text

abbrev pub decreases-loop-rest : goal.decreases-loop-rest
decreases-loop-rest l = length l.rest
