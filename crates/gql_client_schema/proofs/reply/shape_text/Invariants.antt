use Rattle.std.proofs.Common.{◌≡◌, ◌++◌, map, drop}
use Rattle.gql_response.specs.Response.{segment_value}
use Rattle.gql_client_schema.proofs.reply.shape_text.Given as goal

-- the values that are made and those that are left are those of all steps
abbrev pub invariant-loop-step : goal.invariant-loop-step
invariant-loop-step l = l.values ++ map segment_value (drop l.step-index l.step-items) ≡ map segment_value l.path
