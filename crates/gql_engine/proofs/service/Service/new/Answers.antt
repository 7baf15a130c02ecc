-- The schema has the text that is read in its file.
use Rattle.std.proofs.Common.{◌∙◌, ℕ, List, sym, subst}
use Rattle.gql_parser.specs.SchemaText.{SchemaText}
use Rattle.gql_engine.proofs.KeptTexts.{schema_text-kept}
use Rattle.gql_engine.proofs.service.Service.new.Goals as goal

pub of_schema-requires : goal.of_schema-requires
of_schema-requires c =
    subst (λ (text : List ℕ). SchemaText text c.in-Ok.schema) (sym (schema_text-kept c.args.schema_text.now c.in-Ok.schema c.in-Ok.ensures)) c.in-Ok.ensures

pub returns-in_ok-of_schema-in-Ok : goal.returns-in_ok-of_schema-in-Ok
returns-in_ok-of_schema-in-Ok c = record {
  is = c.in_ok-of_schema-in-Ok.ensures ∙ schema_text-kept c.args.schema_text.now c.in-Ok.schema c.in-Ok.ensures;
  schema = c.in-Ok.schema;
  means = c.in-Ok.ensures;
}
