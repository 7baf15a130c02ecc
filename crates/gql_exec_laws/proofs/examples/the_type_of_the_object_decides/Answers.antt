use Rattle.gql_exec_laws.proofs.Nulls.{strict_known}
use Rattle.gql_exec_laws.proofs.examples.the_type_of_the_object_decides.Goals as goal

pub returns : goal.returns
returns c = strict_known
