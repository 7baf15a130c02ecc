use Rattle.std.proofs.Common.{◌∙◌}
use Rattle.gql_schema_types.specs.Types.{type_called}
use Rattle.gql_rules_nodes.proofs.Possible.{any_at}
use Rattle.gql_rules_nodes.proofs.known_types.KnownTypes.is_any_possible.Goals as goal

pub returns-in-Some : goal.returns-in-Some
returns-in-Some c =
    let types = c.args.self.now.schema.now.types in
    c.is_any_in.ensures ∙ any_at types c.args.names.now (type_called c.args.name.now types) c.in-Some.table.now c.in-Some.ensures
