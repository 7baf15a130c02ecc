use Rattle.gql_client_schema_laws.proofs.Document.{means-definitions, only-definitions}
use Rattle.gql_client_schema_laws.proofs.full_query_laws.the_full_query_is_known.Goals as goal

pub returns-clause-means : goal.returns-clause-means
returns-clause-means c = means-definitions c.factored_is_declared.ensures.sound

pub returns-clause-only : goal.returns-clause-only
returns-clause-only c = only-definitions c.factored_is_declared.ensures.sound c.texts_have_one_document.ensures.document
