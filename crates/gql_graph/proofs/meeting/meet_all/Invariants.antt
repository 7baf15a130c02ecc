use Rattle.std.proofs.Common.{◌≡◌, drop}
use Rattle.gql_graph.specs.bridge.Steps.{meeting, all_met}
use Rattle.gql_graph.proofs.meeting.meet_all.Given as goal

-- those that have met and those that are left make the whole
abbrev pub invariant-loop-field : goal.invariant-loop-field
invariant-loop-field l =
    all_met l.keys l.classes l.in_full (drop l.field-index l.fields) (meeting l.buckets l.seen)
    ≡ all_met l.keys l.classes l.in_full l.fields (meeting l.fn.buckets l.fn.seen)
