use Rattle.gql_client_schema_laws.proofs.QueryGiven.{answer-given, again-given}
use Rattle.gql_client_schema_laws.proofs.full_query_laws.the_full_query_gives_what_is_shown.Goals as goal

pub returns-clause-answer : goal.returns-clause-answer
returns-clause-answer c = answer-given c.factored_is_declared.ensures.sound c.texts_have_one_document.ensures.document c.acyclic_graphs_have_ranks.ensures

pub returns-clause-again : goal.returns-clause-again
returns-clause-again c = again-given c.factored_is_declared.ensures.sound c.texts_have_one_document.ensures.document c.acyclic_graphs_have_ranks.ensures
