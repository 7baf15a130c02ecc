use Rattle.gql_valid_laws.proofs.CoreTypes.{text-outputs}
use Rattle.gql_valid_laws.proofs.rule_laws.all_fields_name_output_types.Goals as goal

pub returns : goal.returns
returns c =
    text-outputs c.factored_is_declared.ensures.sound c.texts_have_one_document.ensures.document c.fields_have_output_types.ensures.outputs
    c.fields_have_output_types.ensures.unreserved
