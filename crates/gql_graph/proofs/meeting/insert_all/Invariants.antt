use Rattle.std.proofs.Common.{◌≡◌, drop}
use Rattle.gql_graph.specs.bridge.Steps.{all_inserted}
use Rattle.gql_graph.proofs.meeting.insert_all.Given as goal

-- what is added and what is left make the whole
abbrev pub invariant-loop-other : goal.invariant-loop-other
invariant-loop-other l = all_inserted l.in_full l.field (drop l.other-index l.others) l.seen ≡ all_inserted l.in_full l.field l.others l.fn.seen
