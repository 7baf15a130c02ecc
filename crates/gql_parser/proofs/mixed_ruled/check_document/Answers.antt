use Rattle.gql_rules.specs.DocumentFaults.{AreDocumentFaults}
use Rattle.gql_parser.proofs.Mixed.{no_memory, none_listed, not_empty, some_listed}
use Rattle.gql_parser.proofs.mixed_ruled.check_document.Goals as goal

pub returns-in_err-validate_document : goal.returns-in_err-validate_document
returns-in_err-validate_document c =
    no_memory (AreDocumentFaults c.args.schema.now c.args.document.now) c.args.errors.sources (Unit {0}) c.from_residual.result c.from_residual.ensures.1

pub returns-then-is_empty : goal.returns-then-is_empty
returns-then-is_empty c =
    none_listed (AreDocumentFaults c.args.schema.now c.args.document.now) c.args.errors.items c.validate_document.new.errors.items c.requires
    c.in_ok-validate_document.ensures.faults (c.is_empty.ensures.0 c.if-is_empty.true)

pub returns-else-is_empty : goal.returns-else-is_empty
returns-else-is_empty c =
    let errors = c.validate_document.new.errors in
    some_listed (AreDocumentFaults c.args.schema.now c.args.document.now) c.args.errors.items c.args.errors.sources errors c.requires
    c.in_ok-validate_document.ensures.faults (not_empty c.is_empty.result errors.items c.is_empty.ensures.1 c.if-is_empty.false)
    c.validate_document.ensures.sources
