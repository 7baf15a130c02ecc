use Rattle.gql_diag.proofs.OwnFiles.{joined-found}
use Rattle.gql_diag.proofs.laws.own_files_win.Goals as goal

pub returns : goal.returns
returns c = joined-found
