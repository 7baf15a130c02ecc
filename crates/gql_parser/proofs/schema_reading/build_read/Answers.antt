use Rattle.gql_parser.proofs.SchemaPhases.{build_read, stopped}
use Rattle.gql_parser.proofs.schema_reading.build_read.Goals as goal

pub returns-in-Ok : goal.returns-in-Ok
returns-in-Ok c = build_read c.args.text.now c.in-Ok.document c.built.result c.in-Ok.ensures c.built.ensures

pub returns-in_ok-behind_built_in-in-Err-Fault : goal.returns-in_ok-behind_built_in-in-Err-Fault
returns-in_ok-behind_built_in-in-Err-Fault c =
    stopped c.args.text.now c.in-Err-Fault.list c.in_ok-behind_built_in-in-Err-Fault.field-0 (rw c.in-Err-Fault.field-0-is at c.in-Err-Fault.ensures)
    c.in_ok-behind_built_in-in-Err-Fault.ensures
