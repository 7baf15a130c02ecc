use Rattle.std.proofs.Common.{◌∙◌, ℕ, List, codes, Err, ap, subst}
use Rattle.jb_text.specs.declared.refused.Refused.TheVariants.{Fault}
use Rattle.gql_parser.specs.ExecutablesRead.{IsBuilt}
use Rattle.gql_parser.specs.Parsers.{ParserState, given_next}
use Rattle.gql_client_schema.specs.Query.{full_query}
use Rattle.gql_client_schema.proofs.OneQuery.{none_built}
use Rattle.gql_client_schema.proofs.again.built_query.Goals as goal

pub returns-in-Err-Fault : goal.returns-in-Err-Fault
returns-in-Err-Fault c =
    let parser = c.parse_executable.new.self in
    let schema = c.args.schema.now in
    let refusal = c.in-Err-Fault.field-0-0 in
    none_built schema full_query parser (c.in-Err-Fault.ensures.left.limits ∙ ap (λ (p : ParserState). p.limits) c.new-parser.ensures)
    c.texts_have_one_document.ensures.document refusal
    (subst (λ (t : List ℕ). IsBuilt parser (given_next 4 (codes "query.graphql") t) schema (Err (Fault refusal))) c.full_query.ensures
    (subst (λ (n : ℕ). IsBuilt parser (given_next n (codes "query.graphql") c.full_query.result.now) schema (Err (Fault refusal))) c.starting_at-ids.ensures
    (rw c.in-Err-Fault.field-0-is at c.in-Err-Fault.ensures.answer)))
