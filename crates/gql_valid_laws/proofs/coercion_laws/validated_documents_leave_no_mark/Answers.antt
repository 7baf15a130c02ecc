use Rattle.std.proofs.Common.{get_or}
use Rattle.gql_valid_laws.proofs.BuiltInText.{inputs}
use Rattle.gql_valid_laws.proofs.Schemas.{by-text}
use Rattle.gql_valid_laws.proofs.Whole.{document-inputs}
use Rattle.gql_valid_laws.proofs.coercion_laws.validated_documents_leave_no_mark.Goals as goal

pub returns-clause-fields : goal.returns-clause-fields
returns-clause-fields c =
    by-text c.built_in_text_is_a_document.ensures.scalars (inputs c.factored_is_declared.ensures.sound c.texts_have_one_document.ensures.document)
    c.defaults_are_constant.ensures

pub returns-clause-variables : goal.returns-clause-variables
returns-clause-variables c = λ query schema document means. document-inputs c.defaults_are_constant.ensures schema query document means

pub returns-clause-unmarked : goal.returns-clause-unmarked
returns-clause-unmarked c = λ text query schema document valid means k operation inside values.
    c.input_types_leave_no_mark.ensures schema.types (get_or document.operations k operation).variables values
    (by-text c.built_in_text_is_a_document.ensures.scalars (inputs c.factored_is_declared.ensures.sound c.texts_have_one_document.ensures.document)
    c.defaults_are_constant.ensures text schema valid)
    (document-inputs c.defaults_are_constant.ensures schema query document means k operation inside)
