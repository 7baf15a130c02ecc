use Rattle.std.proofs.Common.{sym}
use Rattle.gql_engine.proofs.variables.read_variables.Goals as goal

pub returns-in-Some-clause-read : goal.returns-in-Some-clause-read
returns-in-Some-clause-read c = record { value = c.in-Ok.value; read = c.in-Ok.ensures.spelled; object = sym c.in-Some.ensures }

pub returns-in-None-clause-refused : goal.returns-in-None-clause-refused
returns-in-None-clause-refused c = record { value = c.in-Ok.value; read = c.in-Ok.ensures.spelled; other = sym c.in-None.ensures }
