use Rattle.gql_grammar.specs.declared.rule.Rule.TheVariants as rule
use Rattle.gql_parser.specs.declared.file_read.FileRead.{FileRead}
use Rattle.gql_parser.specs.FileRead.{IsFileRead}
use Rattle.gql_parser.specs.bridge.FileRead.{IsFileOf}
use Rattle.gql_parser.specs.Parsers.{given}
use Rattle.gql_parser.proofs.Answering.{left, file_read, ok_so}
use Rattle.gql_parser.proofs.parser.Parser.read_file.Goals as goal

pub returns-clause-left : goal.returns-clause-left
returns-clause-left c =
    let read = c.in_ok-read.ensures in
    left c.args.self.now c.read_document.new.self rule.Document c.args.source_text.now read.read.report read.limits read.read.judged

pub returns-clause-read : goal.returns-clause-read
returns-clause-read c =
    let file = given c.args.file_id c.args.path.now c.args.source_text.now in
    let read = c.in_ok-read.read in
    ok_so (λ (r : FileRead). IsFileOf file read.document read.error r.document r.errors) (λ (r : FileRead). IsFileRead c.read_document.new.self file r.document r.errors) c.file_of.result
    (λ (r : FileRead) h. file_read c.parses_mean_their_text.ensures.document c.read_document.new.self file read.document read.error c.in_ok-read.ensures.read r.document r.errors h)
    c.file_of.ensures
