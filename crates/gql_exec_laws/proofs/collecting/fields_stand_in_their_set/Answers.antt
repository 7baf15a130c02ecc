use Rattle.gql_collect.proofs.Standings.{fields-none}
use Rattle.gql_exec_laws.proofs.Counting.{in_field, in_spread, in_inline}
use Rattle.gql_exec_laws.proofs.collecting.fields_stand_in_their_set.Goals as goal

pub returns-clause-nothing : goal.returns-clause-nothing
returns-clause-nothing c = fields-none

pub returns-clause-field : goal.returns-clause-field
returns-clause-field c it rest = in_field it rest

pub returns-clause-spread : goal.returns-clause-spread
returns-clause-spread c it rest = in_spread it rest

pub returns-clause-inline : goal.returns-clause-inline
returns-clause-inline c it rest = in_inline it rest
