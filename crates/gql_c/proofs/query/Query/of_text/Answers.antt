-- A text means one schema at most, so the document is over each that it means.
use Rattle.std.proofs.Common.{◌≡◌, ℕ, List, sym, subst}
use Rattle.gql_engine.specs.DocumentText.{DocumentText}
use Rattle.gql_schema_types.specs.declared.schema.Schema.{Schema}
use Rattle.std.specs.Arc.{arc_value}
use Rattle.gql_c.proofs.query.Query.of_text.Goals as goal

pub invariant_of-result : goal.invariant_of-result
invariant_of-result c = λ schema means.
    let one : c.schema.result.now ≡ schema = c.texts_have_one_schema.ensures.schema (arc_value c.args.service.now) c.schema.result.now schema
    (rw c.deref.ensures at c.schema.ensures) (rw c.in_ok-try_clone-in-Ok.ensures at means) in
    subst (λ (query : List ℕ). DocumentText schema query c.in-Ok.document) (sym c.in_ok-from_str-in-Ok.ensures)
    (subst (λ (S : Schema). DocumentText S c.args.text.now c.in-Ok.document) one c.in-Ok.ensures.answer)
