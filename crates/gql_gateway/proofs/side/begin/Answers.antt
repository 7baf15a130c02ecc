use Rattle.gql_gateway.proofs.AbsentKeys.{no-place}
use Rattle.gql_gateway.proofs.side.begin.Goals as goal

pub insert_new-requires : goal.insert_new-requires
insert_new-requires c = no-place c.args.key c.args.under.now c.requires
