use Rattle.gql_parser.proofs.BuiltInText.{document, scalars}
use Rattle.gql_parser.proofs.laws.built_in_text_is_a_document.Goals as goal

pub returns-clause-document : goal.returns-clause-document
returns-clause-document c = document c.factored_is_declared.ensures.sound

pub returns-clause-scalars : goal.returns-clause-scalars
returns-clause-scalars c = scalars c.factored_is_declared.ensures.sound c.texts_have_one_document.ensures.document
