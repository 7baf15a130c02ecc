use Rattle.gql_engine.proofs.service.Service.implementers_map.Goals as goal

pub returns : goal.returns
returns c = λ schema means. c.implementers_map.ensures schema.types (c.possible_types.ensures schema means)
