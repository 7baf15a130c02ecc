use Rattle.std.proofs.Common.{◌≡◌, false, ◌∙◌, ap}
use Rattle.gql_diag.specs.List.{Diagnostics}
use Rattle.gql_document.specs.Builders as document
use Rattle.gql_parser.specs.MixedRead.{document_taken}
use Rattle.gql_parser.proofs.Steps.{document_badly, document_well}
use Rattle.gql_parser.proofs.mixed_built.built_document.Goals as goal

pub returns-in-Ok : goal.returns-in-Ok
returns-in-Ok c =
    let taken : document.taken c.take_ast.new.self ≡ document_taken c.args.schema.now c.args.file =
    c.in_ok-take_ast.ensures.taken
    ∙ ap (λ (t : document.Taken). document.with_document t c.args.file c.no_faults.result false) c.new-builder.ensures
    ∙ ap (λ (e : Diagnostics). document.with_document (document.nothing_taken c.args.schema.now) c.args.file e false) c.no_faults.ensures in
    document_well c.args.schema.now c.args.file (document.taken c.take_ast.new.self) taken c.in-Ok.document c.new.result.items c.in-Ok.ensures c.new.ensures.items

pub returns-in-Err-Fault : goal.returns-in-Err-Fault
returns-in-Err-Fault c =
    let taken : document.taken c.take_ast.new.self ≡ document_taken c.args.schema.now c.args.file =
    c.in_ok-take_ast.ensures.taken
    ∙ ap (λ (t : document.Taken). document.with_document t c.args.file c.no_faults.result false) c.new-builder.ensures
    ∙ ap (λ (e : Diagnostics). document.with_document (document.nothing_taken c.args.schema.now) c.args.file e false) c.no_faults.ensures in
    document_badly c.args.schema.now c.args.file (document.taken c.take_ast.new.self) taken c.in-Err-Fault.refusal c.parts.result.0 c.parts.result.1.items
    (rw c.in-Err-Fault.field-0-is at c.in-Err-Fault.ensures) (rw c.in-Err-Fault.field-0-is at c.parts.ensures.partial) (rw c.in-Err-Fault.field-0-is at c.parts.ensures.items)
