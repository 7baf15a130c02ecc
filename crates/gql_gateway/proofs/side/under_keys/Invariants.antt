use Rattle.gql_gateway.proofs.Filing.{AreFiled}
use Rattle.gql_gateway.proofs.side.under_keys.Given as goal

-- what is filed, and what is left, make the whole
abbrev pub invariant-loop-error : goal.invariant-loop-error
invariant-loop-error l = AreFiled l.under l.error-iterator l.fn.errors
