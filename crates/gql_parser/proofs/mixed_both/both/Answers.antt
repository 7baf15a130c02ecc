use Rattle.gql_parser.proofs.Steps.{both_hold, both_refused, no_answer}
use Rattle.gql_parser.proofs.mixed_both.both.Goals as goal

pub returns-in_err-schema : goal.returns-in_err-schema
returns-in_err-schema c parser given read = no_answer parser given c.from_residual.result c.from_residual.ensures.1

pub returns-in_err-document : goal.returns-in_err-document
returns-in_err-document c parser given read =
    both_refused parser given c.args.file.document c.args.file.errors read c.in_ok-schema.schema c.document_against.new.schema c.in_ok-schema.faults.items
    c.in_ok-schema.ensures c.in_err-document.field-0.0 c.from_residual-in_err-document.result c.in_err-document.ensures
    c.from_residual-in_err-document.ensures.1

pub returns : goal.returns
returns c parser given read =
    both_hold parser given c.args.file.document c.args.file.errors read c.in_ok-schema.schema c.document_against.new.schema c.in_ok-schema.faults.items
    c.in_ok-schema.ensures c.in_ok-document.document (c.assume_valid.result, c.assume_valid-2.result) c.in_ok-document.ensures c.assume_valid.ensures
    c.assume_valid-2.ensures
