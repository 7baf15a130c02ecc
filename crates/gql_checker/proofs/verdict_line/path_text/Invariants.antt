use Rattle.std.proofs.Common.{◌≡◌, map, take}
use Rattle.gql_response.specs.Response.{segment_value}
use Rattle.gql_checker.proofs.verdict_line.path_text.Given as goal

-- the steps so far
abbrev pub invariant-loop-segment : goal.invariant-loop-segment
invariant-loop-segment l = l.steps ≡ map segment_value (take l.segment-index l.path)
