use Rattle.std.proofs.Common.{sym, []}
use Rattle.gql_graph.proofs.SetFields.{set_beyond}
use Rattle.gql_graph.proofs.meeting.empty_key.Goals as goal

pub returns-in-None : goal.returns-in-None
returns-in-None c = sym (set_beyond c.args.buckets.now c.args.key [] (sym c.in-None.ensures.value))
