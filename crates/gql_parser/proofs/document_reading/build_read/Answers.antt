use Rattle.std.proofs.Common.{◌∙◌, ℕ, codes, Ok, Err, ap, subst}
use Rattle.jb_text.specs.declared.refused.Refused.TheVariants.{Fault}
use Rattle.gql_parser.specs.ExecutablesRead.{IsBuilt}
use Rattle.gql_parser.specs.Parsers.{ParserState, given_next}
use Rattle.gql_parser.proofs.Phases.{is_built, is_refused}
use Rattle.gql_parser.proofs.document_reading.build_read.Goals as goal

pub returns-in-Ok : goal.returns-in-Ok
returns-in-Ok c =
    is_built c.args.schema.now c.args.text.now c.parse_executable.new.self c.in-Ok.document
    (c.in-Ok.ensures.left.limits ∙ ap (λ (p : ParserState). p.limits) c.new-parser.ensures)
    (subst (λ (n : ℕ). IsBuilt c.parse_executable.new.self (given_next n (codes "query.graphql") c.args.text.now) c.args.schema.now (Ok c.in-Ok.document))
    c.starting_at-ids.ensures c.in-Ok.ensures.answer)

pub returns-in-Err-Fault : goal.returns-in-Err-Fault
returns-in-Err-Fault c =
    is_refused c.args.schema.now c.args.text.now c.parse_executable.new.self c.in-Err-Fault.refusal
    (c.in-Err-Fault.ensures.left.limits ∙ ap (λ (p : ParserState). p.limits) c.new-parser.ensures)
    (subst (λ (n : ℕ). IsBuilt c.parse_executable.new.self (given_next n (codes "query.graphql") c.args.text.now) c.args.schema.now (Err (Fault c.in-Err-Fault.refusal)))
    c.starting_at-ids.ensures (rw c.in-Err-Fault.field-0-is at c.in-Err-Fault.ensures.answer))
