use Rattle.gql_client_schema_laws.proofs.Document.{only-document}
use Rattle.gql_client_schema_laws.proofs.full_query_laws.the_full_query_builds_one_document.Goals as goal

pub returns : goal.returns
returns c schema root known is_root own document of =
    only-document schema known root is_root own c.factored_is_declared.ensures.sound c.texts_have_one_document.ensures.document document of
