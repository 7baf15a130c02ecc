use Rattle.std.proofs.Common.{subst}
use Rattle.gql_cst.specs.Report.{report_of}
use Rattle.gql_source.specs.declared.file_id.FileId.{FileId}
use Rattle.gql_grammar.specs.declared.rule.Rule.TheVariants as rule
use Rattle.gql_parser.specs.Parsers.{given}
use Rattle.gql_parser.specs.TypesRead.{IsTypeAnswer}
use Rattle.gql_parser.proofs.Answering.{left, complete, type_answer}
use Rattle.gql_parser.proofs.parser.Parser.parse_type.Goals as goal

pub type_of_parse-requires-clause-complete : goal.type_of_parse-requires-clause-complete
type_of_parse-requires-clause-complete c =
    complete c.sentences_are_complete.ensures.ty c.read_type.new.self
    (given c.next_file-file_id.result c.args.path.now c.args.source_text.now) c.in_ok-parsed.parsed c.in_ok-parsed.ensures.judged

pub returns-clause-left : goal.returns-clause-left
returns-clause-left c =
    left c.args.self.now c.read_type.new.self rule.TypeReference c.args.source_text.now (report_of c.in_ok-parsed.parsed) c.in_ok-parsed.ensures.limits c.in_ok-parsed.ensures.judged

pub returns-clause-answer : goal.returns-clause-answer
returns-clause-answer c =
    subst (λ (f : FileId). IsTypeAnswer c.read_type.new.self (given f c.args.path.now c.args.source_text.now) c.type_of_parse.result) c.next_file-file_id.ensures.given
    (type_answer c.parses_mean_their_text.ensures.ty c.read_type.new.self (given c.next_file-file_id.result c.args.path.now c.args.source_text.now) c.in_ok-parsed.parsed c.type_of_parse.result
    c.in_ok-parsed.ensures.judged c.type_of_parse.ensures)
