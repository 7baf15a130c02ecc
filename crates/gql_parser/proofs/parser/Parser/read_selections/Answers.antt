use Rattle.gql_cst.specs.Report.{report_of}
use Rattle.gql_grammar.specs.declared.rule.Rule.TheVariants as rule
use Rattle.gql_parser.specs.declared.parse_field_set.SelectionsRead.{SelectionsRead}
use Rattle.gql_parser.specs.FieldSetsRead.{AreSelectionsRead}
use Rattle.gql_parser.specs.bridge.FieldSetsRead.{AreSelectionsOfParse}
use Rattle.gql_parser.specs.Parsers.{given}
use Rattle.gql_parser.proofs.Answering.{left, selections_read, ok_so}
use Rattle.gql_parser.proofs.parser.Parser.read_selections.Goals as goal

pub returns-clause-left : goal.returns-clause-left
returns-clause-left c =
    left c.args.self.now c.read_selection_set.new.self rule.FieldSet c.args.source_text.now (report_of c.in_ok-parsed.parsed) c.in_ok-parsed.ensures.limits c.in_ok-parsed.ensures.judged

pub returns-clause-read : goal.returns-clause-read
returns-clause-read c =
    let file = given c.args.file_id c.args.path.now c.args.source_text.now in
    let parsed = c.in_ok-parsed.parsed in
    ok_so (λ (r : SelectionsRead). AreSelectionsOfParse file parsed r.selections r.errors) (λ (r : SelectionsRead). AreSelectionsRead c.read_selection_set.new.self file r.selections r.errors)
    c.selections_of_parse.result
    (λ (r : SelectionsRead) h. selections_read c.parses_mean_their_text.ensures.selections c.read_selection_set.new.self file parsed r.selections r.errors c.in_ok-parsed.ensures.judged h)
    c.selections_of_parse.ensures
