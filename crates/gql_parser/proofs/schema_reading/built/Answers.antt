use Rattle.gql_schema.specs.Builders.{taken}
use Rattle.gql_parser.proofs.SchemaPhases.{is_refused}
use Rattle.gql_parser.proofs.schema_reading.built.Goals as goal

pub returns-in-Err-Fault : goal.returns-in-Err-Fault
returns-in-Err-Fault c =
    is_refused c.args.document (taken c.in_ok-builder.builder) c.in-Err-Fault.refusal c.in_ok-builder.ensures (rw c.in-Err-Fault.field-0-is at c.in-Err-Fault.ensures.judged)
