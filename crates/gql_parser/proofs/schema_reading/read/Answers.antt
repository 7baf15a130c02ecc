use Rattle.std.proofs.Common.{◌∙◌, ℕ, codes, ap, subst}
use Rattle.gql_parser.specs.DocumentsRead.{IsDocumentStopped}
use Rattle.gql_parser.specs.Parsers.{ParserState, given_next}
use Rattle.gql_parser.proofs.SchemaPhases.{is_stopped}
use Rattle.gql_parser.proofs.schema_reading.read.Goals as goal

pub returns-in-Err-Fault : goal.returns-in-Err-Fault
returns-in-Err-Fault c =
    is_stopped c.args.text.now c.in-Err-Fault.refusal.partial c.in-Err-Fault.refusal.errors c.parse_ast.new.self
    (c.in-Err-Fault.ensures.left.limits ∙ ap (λ (p : ParserState). p.limits) c.new-parser.ensures)
    (subst (λ (n : ℕ). IsDocumentStopped c.parse_ast.new.self (given_next n (codes "schema.graphql") c.args.text.now) c.in-Err-Fault.refusal.partial c.in-Err-Fault.refusal.errors)
    c.new-ids.ensures (rw c.in-Err-Fault.field-0-is at c.in-Err-Fault.ensures.answer))
