-- The built-in definitions are known.
use Rattle.gql_client_schema_laws.proofs.BuiltIns.{have_names}
use Rattle.gql_client_schema_laws.proofs.laws.built_in_definitions_have_known_names.Goals as goal

pub returns : goal.returns
returns c = have_names c.factored_is_declared.ensures.sound c.texts_have_one_document.ensures.document
