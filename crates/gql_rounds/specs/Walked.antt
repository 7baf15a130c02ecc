-- What a walk over objects has found, as the code has it.
use Rattle.gql_exec.specs.Request.{Request}
use Rattle.gql_exec.specs.declared.executing.Executing.{Executing}
use Rattle.gql_rounds.specs.Known.{Known}
use Rattle.gql_rounds.specs.Table.{Table}
use Rattle.gql_rounds.specs.Wanted.{request_by_table}

-- what an execution is asked by this table
abbrev pub request_in : Executing → Table → Request Known
request_in executing table = request_by_table executing.request.schema.now executing.request.document.now executing.variables.now table
