use Rattle.gql_schema.specs.Builders.{taken}
use Rattle.gql_parser.proofs.SchemaPhases.{its_built_in}
use Rattle.gql_parser.proofs.schema_reading.built_in_schema.Goals as goal

pub returns-in-Ok : goal.returns-in-Ok
returns-in-Ok c =
    its_built_in c.in_ok-builder.builder.built_in (taken c.in_ok-builder.builder) c.in-Ok.schema c.in_ok-builder.ensures.empty c.in-Ok.ensures.judged.1

pub returns-in-Err-Fault : goal.returns-in-Err-Fault
returns-in-Err-Fault c =
    let judged = rw c.in-Err-Fault.field-0-is at c.in-Err-Fault.ensures.judged in
    its_built_in c.in_ok-builder.builder.built_in (taken c.in_ok-builder.builder) c.in-Err-Fault.refusal.partial c.in_ok-builder.ensures.empty judged.1.0
