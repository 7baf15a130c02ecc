use Rattle.gql_document_types.proofs.Spreadless.{expanded-none}
use Rattle.gql_document_types.proofs.laws.expansions_have_no_spread.Goals as goal

pub returns : goal.returns
returns c = λ fragments selections. expanded-none fragments selections
