use Rattle.std.proofs.Common.{Some, ap, ◌∙◌}
use Rattle.std.specs.Option.{option_map}
use Rattle.gql_rules_nodes.proofs.Possible.{names-known}
use Rattle.gql_rules_nodes.specs.PossibleTypes.{possible_names}
use Rattle.gql_rules_nodes.proofs.known_types.KnownTypes.names.Goals as goal

pub returns-in-Some : goal.returns-in-Some
returns-in-Some c =
    let self = c.args.self.now in
    let types = self.schema.now.types in
    ap Some (c.names_of.ensures ∙ names-known self.possible.now.implementers types self.implementers_known c.in-Some.ty.now)
    ∙ ap (option_map (possible_names types)) c.in-Some.ensures
