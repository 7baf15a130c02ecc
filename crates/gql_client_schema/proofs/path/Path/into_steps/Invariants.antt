use Rattle.std.proofs.Common.{◌≡◌}
use Rattle.gql_client_schema.proofs.path.Path.into_steps.Given as goal

abbrev pub invariant-loop-step : goal.invariant-loop-step
invariant-loop-step l = l.list ≡ l.yielded
