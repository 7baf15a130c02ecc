use Rattle.gql_print_laws.proofs.SmallSchema.{printable, written, told}
use Rattle.gql_print_laws.proofs.examples.built_in_types_are_not_written.Goals as goal

pub returns-clause-printable : goal.returns-clause-printable
returns-clause-printable c = printable

pub returns-clause-written : goal.returns-clause-written
returns-clause-written c = written

pub returns-clause-told : goal.returns-clause-told
returns-clause-told c = told
