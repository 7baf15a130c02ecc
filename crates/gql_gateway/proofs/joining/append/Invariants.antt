use Rattle.std.proofs.Common.{◌≡◌, ◌++◌}
use Rattle.gql_gateway.proofs.joining.append.Given as goal

-- what is there, and what is left, make the whole
abbrev pub invariant-loop-error : goal.invariant-loop-error
invariant-loop-error l = l.all ++ l.error-iterator ≡ l.fn.all ++ l.fn.errors
