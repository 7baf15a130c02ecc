use Rattle.std.proofs.Common.{subst}
use Rattle.gql_source.specs.declared.file_id.FileId.{FileId}
use Rattle.gql_parser.specs.MixedRead.{IsMixedAnswer}
use Rattle.gql_parser.specs.Parsers.{given, given_next}
use Rattle.gql_parser.proofs.Steps.{no_answer}
use Rattle.gql_parser.proofs.parser.Parser.parse_mixed_validate.Goals as goal

pub returns-in_err-file-clause-answer : goal.returns-in_err-file-clause-answer
returns-in_err-file-clause-answer c =
    no_answer c.read_file.new.self (given_next c.args.ids.now c.args.path.now c.args.source_text.now) c.from_residual.result c.from_residual.ensures.1

pub returns-clause-answer : goal.returns-clause-answer
returns-clause-answer c =
    subst (λ (f : FileId). IsMixedAnswer c.read_file.new.self (given f c.args.path.now c.args.source_text.now) c.both.result) c.next_file-file_id.ensures.given
    (c.both.ensures c.read_file.new.self (given c.next_file-file_id.result c.args.path.now c.args.source_text.now) c.in_ok-file.ensures.read)
