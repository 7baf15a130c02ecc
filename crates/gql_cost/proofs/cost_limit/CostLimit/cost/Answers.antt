use Rattle.gql_cost.proofs.cost_limit.CostLimit.cost.Goals as goal

pub cost-requires : goal.cost-requires
cost-requires g c =
    let is = c.requires.3 in
    record {
      acyclic = c.valid_documents_run.ensures.acyclic c.args.ready.now.schema.now c.requires.0.query c.args.ready.now.document.now is.meant.is_document;
    }
