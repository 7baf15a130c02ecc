use Rattle.gql_parser.specs.Parsers.{ParserState, given}
use Rattle.gql_parser.proofs.Answering.{read_ordered, read_to}
use Rattle.gql_parser.proofs.parser.Parser.read_document.Goals as goal

pub returns-clause-read : goal.returns-clause-read
returns-clause-read c =
    read_to (given c.args.file_id c.args.path.now c.args.text.now) c.self.inside.limits c.in_ok-sources.sources c.in_ok-read.read
    c.in_ok-sources.ensures.sources c.in_ok-sources.ensures.found c.in_ok-read.ensures

pub returns-clause-ordered : goal.returns-clause-ordered
returns-clause-ordered c =
    let file = given c.args.file_id c.args.path.now c.args.text.now in
    let read = c.in_ok-read.read in
    let parser : ParserState = record { limits = c.self.inside.limits; recursion_reached = read.recursion_reached; tokens_reached = read.tokens_reached } in
    read_ordered parser file (record { sources = c.in_ok-sources.sources; definitions = read.definitions }) read.error
    (read_to file c.self.inside.limits c.in_ok-sources.sources read c.in_ok-sources.ensures.sources c.in_ok-sources.ensures.found c.in_ok-read.ensures)
