use Rattle.std.proofs.Common.{◌∙◌}
use Rattle.gql_schema_types.specs.Types.{type_called}
use Rattle.gql_rules_nodes.proofs.Possible.{other_way}
use Rattle.gql_rules_nodes.proofs.known_types.KnownTypes.can_meet_names.Goals as goal

pub returns-in-Some : goal.returns-in-Some
returns-in-Some c =
    let types = c.args.self.now.schema.now.types in
    c.is_any_possible.ensures
    ∙ other_way types (type_called c.args.first.now types) (type_called c.args.second.now types) c.args.names.now c.in-Some.others.now c.requires c.in-Some.ensures
