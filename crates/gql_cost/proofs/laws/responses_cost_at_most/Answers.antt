use Rattle.gql_cost.proofs.Bounded.{response-bounded}
use Rattle.gql_cost.proofs.laws.responses_cost_at_most.Goals as goal

pub returns : goal.returns
returns g c = λ type_of resolves root wanted bytes answered.
    response-bounded answered
    (record {
      acyclic = c.valid_documents_run.ensures.acyclic;
      ranks = c.acyclic_graphs_have_ranks.ensures;
      typed = c.documents_are_typed.ensures;
      covariant = c.object_types_are_covariant.ensures;
      merge = c.fields_of_one_key_merge.ensures.names;
    })
