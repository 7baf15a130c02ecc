use Rattle.gql_client_schema_laws.proofs.Introspecting.{introspects}
use Rattle.gql_client_schema_laws.proofs.full_query_laws.schemas_have_introspection.Goals as goal

pub returns : goal.returns
returns c = introspects c.factored_is_declared.ensures.sound c.texts_have_one_document.ensures.document
