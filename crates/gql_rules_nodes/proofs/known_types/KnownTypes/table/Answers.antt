use Rattle.std.proofs.Common.{sym, ap, ◌∙◌}
use Rattle.std.specs.Option.{option_map}
use Rattle.gql_schema_types.proofs.Lookups.{missing}
use Rattle.gql_schema_types.specs.Entries.{is_called}
use Rattle.gql_schema_types.specs.Types.{type_name}
use Rattle.gql_rules_nodes.proofs.Possible.{table_at}
use Rattle.gql_rules_nodes.specs.PossibleTypes.{distinct_texts, possible_names}
use Rattle.gql_rules_nodes.proofs.known_types.KnownTypes.table.Goals as goal

pub returns-in-Some : goal.returns-in-Some
returns-in-Some c =
    let self = c.args.self.now in
    let types = self.schema.now.types in
    c.get.ensures ∙ table_at self.possible.now.implementers types self.implementers_known self.possible.now.tables self.tables_known c.args.name.now c.in-Some.at (sym c.in-Some.ensures)

pub returns-in-None : goal.returns-in-None
returns-in-None c =
    let types = c.args.self.now.schema.now.types in
    ap (option_map (λ ty. distinct_texts (possible_names types ty))) (sym (missing (is_called type_name c.args.name.now) types (sym c.in-None.ensures)))
