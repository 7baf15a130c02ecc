use Rattle.std.proofs.Common.{◌≡◌, length}
use Rattle.gql_graph.proofs.meeting.empty.Given as goal

abbrev pub invariant-loop-field : goal.invariant-loop-field
invariant-loop-field l = length l.bucket ≡ length l.bucket

abbrev pub decreases-loop-field : goal.decreases-loop-field
decreases-loop-field l = length l.bucket
