use Rattle.gql_c.proofs.operation_cost.cost_chosen.Goals as goal

pub cost_within-requires : goal.cost_within-requires
cost_within-requires c = c.valid_documents_run.ensures.acyclic c.document-document.ensures.schema c.args.query.now.query c.document-document.result.now c.document-document.ensures.are.is_document
