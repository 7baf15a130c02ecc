use Rattle.gql_engine.proofs.responding.respond_prepared.Goals as goal

pub respond_on-requires : goal.respond_on-requires
respond_on-requires g c = (c.args.prepared.now.schema, c.args.prepared.now.query, c.texts-texts.ensures)

pub returns : goal.returns
returns g c = c.respond_on.ensures c.args.prepared.now.schema c.args.prepared.now.query c.texts-texts.ensures
