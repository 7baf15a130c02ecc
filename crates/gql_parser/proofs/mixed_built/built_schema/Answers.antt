use Rattle.std.proofs.Common.{false, ◌∙◌, ap}
use Rattle.gql_schema.specs.Builders as schema
use Rattle.gql_parser.proofs.Steps.{schema_badly, schema_well}
use Rattle.gql_parser.proofs.mixed_built.built_schema.Goals as goal

pub returns-in-Ok : goal.returns-in-Ok
returns-in-Ok c =
    schema_well c.args.file.now c.args.errors (schema.taken c.in_ok-builder.builder).built_in (schema.taken c.add_ast.new.self) c.in_ok-builder.ensures.built_in
    (c.in_ok-add_ast.ensures.taken
    ∙ ap (λ (t : schema.Taken). schema.with_document t c.args.file.now c.args.errors false) c.in_ok-builder.ensures.empty)
    c.in-Ok.schema c.new-in-Ok.result.items c.in-Ok.ensures c.new-in-Ok.ensures.items

pub returns-in-Err-Fault : goal.returns-in-Err-Fault
returns-in-Err-Fault c =
    schema_badly c.args.file.now c.args.errors (schema.taken c.in_ok-builder.builder).built_in (schema.taken c.add_ast.new.self) c.in_ok-builder.ensures.built_in
    (c.in_ok-add_ast.ensures.taken
    ∙ ap (λ (t : schema.Taken). schema.with_document t c.args.file.now c.args.errors false) c.in_ok-builder.ensures.empty)
    c.in-Err-Fault.refusal c.parts.result.0 c.parts.result.1.items (rw c.in-Err-Fault.field-0-is at c.in-Err-Fault.ensures) (rw c.in-Err-Fault.field-0-is at c.parts.ensures.partial)
    (rw c.in-Err-Fault.field-0-is at c.parts.ensures.items)
