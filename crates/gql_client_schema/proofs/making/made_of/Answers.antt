use Rattle.gql_client_schema.proofs.OneMaking.{of_shown}
use Rattle.gql_client_schema.proofs.making.made_of.Goals as goal

pub returns-in-Ok : goal.returns-in-Ok
returns-in-Ok c = of_shown c.in-Ok.shown c.args.value.now c.made_of_shown.result c.in-Ok.ensures c.made_of_shown.ensures
