use Rattle.gql_document_types.proofs.Row.{row, row-count}
use Rattle.gql_document_types.proofs.laws.a_spread_becomes_an_inline_fragment.Goals as goal

pub returns : goal.returns
returns c = record { selections = row; count = row-count }
