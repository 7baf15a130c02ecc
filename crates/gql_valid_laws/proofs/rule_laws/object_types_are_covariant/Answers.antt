use Rattle.gql_valid_laws.proofs.SchemaTexts.{text-covariant}
use Rattle.gql_valid_laws.proofs.rule_laws.object_types_are_covariant.Goals as goal

pub returns : goal.returns
returns c =
    text-covariant c.factored_is_declared.ensures.sound c.texts_have_one_document.ensures.document c.fields_have_output_types.ensures.outputs
    c.fields_have_output_types.ensures.unreserved c.roots_are_object_types.ensures.text
