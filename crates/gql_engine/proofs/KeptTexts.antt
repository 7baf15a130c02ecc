-- A schema and a document have the text that means them in their files.
use Rattle.std.proofs.Common.{◌≡◌, ◌∙◌, ℕ, List, ap}
use Rattle.gql_document.specs.Builders as document
use Rattle.gql_document_types.specs.declared.document.ExecutableDocument.{ExecutableDocument}
use Rattle.gql_parser.specs.DocumentText.{DocumentText}
use Rattle.gql_parser.specs.SchemaText.{SchemaText}
use Rattle.gql_schema.specs.Builders as schema
use Rattle.gql_schema_types.specs.declared.schema.Schema.{Schema}
use Rattle.gql_engine.specs.AtHand.{TwoTexts, query_text_in, schema_text_in, text_in}
use Rattle.gql_engine.specs.Service.{IsOfTexts}

pub schema_text-kept : (text : List ℕ) (it : Schema) → SchemaText text it → schema_text_in it ≡ text
schema_text-kept text it means =
    ap schema_text_in means.settled ∙ ap (λ (taken : schema.Taken). text_in (record { number = 3 }) taken.sources) means.definitions.all

pub query_text-kept : (it : Schema) (text : List ℕ) (made : ExecutableDocument) → DocumentText it text made → query_text_in made ≡ text
query_text-kept it text made means =
    ap query_text_in means.is ∙ ap (λ (taken : document.Taken). text_in (record { number = 4 }) taken.sources) means.definitions.all

-- so what is prepared of two texts is of these texts
pub prepared-kept : (schema query : List ℕ) (it : Schema) (made : ExecutableDocument) → SchemaText schema it → DocumentText it query made
    → IsOfTexts schema query (record { schema = schema; query = query_text_in made })
prepared-kept schema query it made means is = record {
  is = ap (λ (text : List ℕ). let texts : TwoTexts = record { schema = schema; query = text } in texts) (query_text-kept it query made is);
  meant = record { schema = it; document = made; are = record { is_schema = means; is_document = is } };
}
