use Rattle.gql_rules_values.proofs.required_argument.is_first.Goals as goal

pub returns : goal.returns
returns c = c.is_first.ensures c.args.definition.now c.requires.there
