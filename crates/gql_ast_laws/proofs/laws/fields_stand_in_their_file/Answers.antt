use Rattle.gql_ast_laws.proofs.FieldsIn.{document-in}
use Rattle.gql_ast_laws.proofs.laws.fields_stand_in_their_file.Goals as goal

pub returns : goal.returns
returns c = λ text file definitions means. document-in text file definitions means
