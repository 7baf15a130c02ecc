use Rattle.gql_introspection.proofs.Lists.{list-means}
use Rattle.gql_introspection.proofs.items.Items.into_list.Goals as goal

pub returns : goal.returns
returns c = list-means c.args.self.held
