-- What the prover leaves open of `Prepared::of_query`: the document has its text, and a text means one schema at most, so the document
-- is over each that it means.
use Rattle.std.proofs.Common.{◌≡◌, ℕ, List, sym, subst}
use Rattle.gql_parser.specs.DocumentText.{DocumentText}
use Rattle.gql_schema_types.specs.declared.schema.Schema.{Schema}
use Rattle.gql_engine.proofs.KeptTexts.{prepared-kept, query_text-kept}
use Rattle.gql_engine.proofs.prepared.Prepared.of_query.Goals as goal

pub document_of_text_with-requires : goal.document_of_text_with-requires
document_of_text_with-requires c = c.possible_types-possible.ensures c.schema.result.now c.schema.ensures

pub returns-in-Ok : goal.returns-in-Ok
returns-in-Ok c = prepared-kept c.args.service.now c.args.query.now c.schema.result.now c.in-Ok.document c.schema.ensures c.in-Ok.ensures.answer

pub invariant_of-result : goal.invariant_of-result
invariant_of-result c = λ schema means.
    let document = c.in-Ok.document in
    let answer = c.in-Ok.ensures.answer in
    let one : c.schema.result.now ≡ schema = c.texts_have_one_schema.ensures.schema c.args.service.now c.schema.result.now schema c.schema.ensures means in
    subst (λ (query : List ℕ). DocumentText schema query document) (sym (query_text-kept c.schema.result.now c.args.query.now document answer))
    (subst (λ (S : Schema). DocumentText S c.args.query.now document) one answer)
