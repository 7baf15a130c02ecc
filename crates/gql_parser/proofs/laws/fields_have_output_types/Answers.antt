use Rattle.gql_parser.proofs.OutputFields.{text-outputs, text-unreserved}
use Rattle.gql_parser.proofs.laws.fields_have_output_types.Goals as goal

pub returns-clause-unreserved : goal.returns-clause-unreserved
returns-clause-unreserved c =
    text-unreserved c.factored_is_declared.ensures.sound c.texts_have_one_document.ensures.document c.built_in_text_is_a_document.ensures.scalars
    c.fields_stand_in_their_file.ensures

pub returns-clause-outputs : goal.returns-clause-outputs
returns-clause-outputs c =
    text-outputs c.factored_is_declared.ensures.sound c.texts_have_one_document.ensures.document c.built_in_text_is_a_document.ensures.scalars
    c.fields_stand_in_their_file.ensures
