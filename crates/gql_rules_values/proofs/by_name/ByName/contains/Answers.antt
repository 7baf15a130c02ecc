use Rattle.std.proofs.Common.{is_some, ap, ◌∙◌}
use Rattle.gql_rules_values.proofs.Places.{place-any}
use Rattle.gql_rules_values.proofs.by_name.ByName.contains.Goals as goal
use Rattle.gql_schema_types.specs.Entries.{is_called}

pub returns : goal.returns
returns g c = c.is_some.ensures ∙ ap is_some c.find.ensures ∙ place-any (is_called g.T.Placed.name_of c.args.name.now) c.args.self.now
