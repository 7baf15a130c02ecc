use Rattle.std.proofs.Common.{refl}
use Rattle.gql_exec_laws.proofs.Counting.{size-known, fields-known}
use Rattle.gql_exec_laws.proofs.laws.what_is_inside_fields_is_not_counted.Goals as goal

pub returns-clause-selections : goal.returns-clause-selections
returns-clause-selections c = size-known

pub returns-clause-outer : goal.returns-clause-outer
returns-clause-outer c = refl

pub returns-clause-fields : goal.returns-clause-fields
returns-clause-fields c = fields-known
