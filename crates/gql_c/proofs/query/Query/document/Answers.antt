use Rattle.std.proofs.Common.{subst}
use Rattle.gql_engine.specs.AtHand.{TwoTexts}
use Rattle.gql_c.specs.Queries.{IsTextsDocument}
use Rattle.gql_c.proofs.query.Query.document.Goals as goal

pub returns : goal.returns
returns c = let is_schema = rw c.deref.ensures at c.schema-schema.ensures in
    subst (λ (texts : TwoTexts). IsTextsDocument texts c.self.inside.document) c.self.view_is
    (record {
      schema = c.schema-schema.result.now;
      are = record {
        is_schema = is_schema;
        is_document = c.self.invariant c.schema-schema.result.now is_schema;
      };
    })
