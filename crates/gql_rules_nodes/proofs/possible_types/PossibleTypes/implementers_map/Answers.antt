use Rattle.gql_rules_nodes.proofs.possible_types.PossibleTypes.implementers_map.Goals as goal

pub returns : goal.returns
returns c = λ types are. are.implementers
