use Rattle.gql_c.proofs.handle.Handle.TheSendSync.{the_send}
use Rattle.gql_c.proofs.laws.handles_cross_threads.Goals as goal

pub returns : goal.returns
returns c = the_send
