use Rattle.gql_engine.specs.bridge.Phases.{ready_as}
use Rattle.gql_cost.proofs.Bounded.{answered-within}
use Rattle.gql_cost.proofs.responding.execute_within.Goals as goal

pub returns-in-Ok-clause-answered : goal.returns-in-Ok-clause-answered
returns-in-Ok-clause-answered g c = λ wanted before after is.
    answered-within (c.in-Ok.ensures.answered wanted before after is)
    (record {
      acyclic = c.valid_documents_run.ensures.acyclic;
      ranks = c.acyclic_graphs_have_ranks.ensures;
      typed = c.documents_are_typed.ensures;
      covariant = c.object_types_are_covariant.ensures;
      merge = c.fields_of_one_key_merge.ensures.names;
    })
    (c.readiness_is_one.ensures.document wanted) (c.readiness_is_one.ensures.operation wanted) c.args.limit.now (ready_as is) c.requires.costs
