use Rattle.gql_parser.proofs.Typed.{text-typed}
use Rattle.gql_parser.proofs.laws.documents_are_typed.Goals as goal

pub returns : goal.returns
returns c = λ schema text document means. text-typed schema text document means
