use Rattle.std.proofs.Common.{◌≡◌, drop}
use Rattle.gql_graph.specs.bridge.Steps.{all_emptied}
use Rattle.gql_graph.proofs.meeting.empty_all.Given as goal

-- what is emptied and what is left make the whole
abbrev pub invariant-loop-field : goal.invariant-loop-field
invariant-loop-field l = all_emptied l.keys l.buckets (drop l.field-index l.fields) ≡ all_emptied l.keys l.fn.buckets l.fields
