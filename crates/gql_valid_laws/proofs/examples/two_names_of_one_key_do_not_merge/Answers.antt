use Rattle.gql_valid_laws.proofs.Worked.{no-merge}
use Rattle.gql_valid_laws.proofs.examples.two_names_of_one_key_do_not_merge.Goals as goal

pub returns : goal.returns
returns c = λ schema fragments variables T f g two merge. no-merge schema fragments variables T f g two merge
