use Rattle.gql_engine.proofs.Documents.{is_self_test}
use Rattle.gql_engine.proofs.request_laws.self_tests_mean_this.Goals as goal

pub returns : goal.returns
returns c = λ schema document name operation of_schema of_document is.
    is_self_test c.factored_is_declared.ensures.sound c.texts_have_one_document.ensures.document schema document of_schema of_document name operation is
