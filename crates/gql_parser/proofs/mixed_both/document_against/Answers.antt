use Rattle.gql_parser.proofs.Steps.{document_holds, document_refused, no_memory_for}
use Rattle.gql_parser.proofs.mixed_both.document_against.Goals as goal

pub returns-in_err-document : goal.returns-in_err-document
returns-in_err-document c firsts started =
    no_memory_for c.args.schema.now c.args.schema.now c.args.file firsts c.from_residual.result c.from_residual.ensures.1

pub returns-in_err-errors : goal.returns-in_err-errors
returns-in_err-errors c firsts started =
    no_memory_for c.args.schema.now c.args.schema.now c.args.file firsts c.from_residual-in_err-errors.result c.from_residual-in_err-errors.ensures.1

pub returns-in_err-check_all : goal.returns-in_err-check_all
returns-in_err-check_all c firsts started =
    document_refused c.args.schema.now c.check_all.new.schema c.args.file firsts c.in_ok-document.document c.args.faults.items c.in_ok-document.others.items
    c.in_ok-errors.errors c.in_ok-document.ensures started c.in_ok-errors.ensures.items c.in_ok-errors.ensures.sources c.in_err-check_all.field-0.0
    c.from_residual-in_err-check_all.result c.in_err-check_all.ensures.held c.from_residual-in_err-check_all.ensures.1

pub returns : goal.returns
returns c firsts started =
    document_holds c.args.schema.now c.check_all.new.schema c.args.file firsts c.in_ok-document.document c.args.faults.items c.in_ok-document.others.items
    c.in_ok-errors.errors c.in_ok-document.ensures started c.in_ok-errors.ensures.items c.in_ok-errors.ensures.sources c.in_ok-check_all.ensures.held
    c.in_ok-check_all.ensures.schema
