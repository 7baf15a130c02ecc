use Rattle.gql_exec_laws.proofs.Unlisted.{unlisted}
use Rattle.gql_exec_laws.proofs.Explaining.{fully-known, only-known}
use Rattle.gql_exec_laws.proofs.examples.errors_and_nulls_explain_each_other.Goals as goal

pub returns-clause-explained : goal.returns-clause-explained
returns-clause-explained c = fully-known

pub returns-clause-only : goal.returns-clause-only
returns-clause-only c errors found by = only-known errors found by

pub returns-clause-unlisted : goal.returns-clause-unlisted
returns-clause-unlisted c found by = unlisted found by
