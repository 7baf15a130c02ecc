use Rattle.std.proofs.Common.{subst}
use Rattle.gql_source.specs.declared.file_id.FileId.{FileId}
use Rattle.gql_grammar.specs.declared.rule.Rule.TheVariants as rule
use Rattle.gql_parser.specs.Parsers.{given}
use Rattle.gql_parser.specs.DocumentsRead.{IsDocumentAnswer}
use Rattle.gql_parser.proofs.Answering.{left, document_answer}
use Rattle.gql_parser.proofs.parser.Parser.parse_ast.Goals as goal

pub returns-clause-left : goal.returns-clause-left
returns-clause-left c =
    let read = c.in_ok-read.ensures in
    left c.args.self.now c.read_document.new.self rule.Document c.args.source_text.now read.read.report read.limits read.read.judged

pub returns-clause-answer : goal.returns-clause-answer
returns-clause-answer c =
    let read = c.in_ok-read in
    subst (λ (f : FileId). IsDocumentAnswer c.read_document.new.self (given f c.args.path.now c.args.source_text.now) c.answer_of.result) c.next_file-file_id.ensures.given
    (document_answer c.parses_mean_their_text.ensures.document c.read_document.new.self (given c.next_file-file_id.result c.args.path.now c.args.source_text.now)
    read.read.document read.read.error read.ensures.read c.answer_of.result c.answer_of.ensures)
