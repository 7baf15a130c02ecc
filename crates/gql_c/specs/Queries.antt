-- What comes of the text of a query against a schema: sections 2 and 5 of GraphQL October 2021.
use Rattle.std.specs.Prelude.{◌≡◌, ℕ, List, Err, Option, Some, None}
use Rattle.std.specs.Arc.{arc_value}
use Rattle.std.specs.Str.{IsUtf8}
use Rattle.jb_text.specs.declared.refused.Refused.TheVariants.{Fault}
use Rattle.gql_document_types.specs.declared.document.ExecutableDocument.{ExecutableDocument}
use Rattle.gql_schema_types.specs.declared.schema.Schema.{Schema as SchemaOf}
use Rattle.gql_engine.specs.AtHand.{TwoTexts}
use Rattle.gql_engine.specs.Meant.{AreMeant}
use Rattle.gql_engine.specs.Service.{IsOfTexts, IsPreparationOf}
use Rattle.gql_engine.specs.declared.answer_error.AnswerError.{AnswerError}
use Rattle.gql_engine.specs.declared.answer_error.AnswerError.TheVariants as error
use Rattle.gql_c.specs.Schemas.{Reads}
use Rattle.gql_c.specs.declared.held.Held.{Held}
use Rattle.gql_c.specs.declared.held.Held.TheVariants.{Schema, Query, Data, Reply, Answers}
use Rattle.gql_c.specs.declared.outcome.Outcome.{Outcome}
use Rattle.gql_c.specs.declared.outcome.Outcome.TheVariants.{WrongHandle, Unread}

-- the texts of a schema and of a query mean it
pub record IsTextsDocument (texts : TwoTexts) (document : ExecutableDocument) : Type 0 where
  pub schema : SchemaOf
  pub are : AreMeant texts.schema texts.query schema document

-- what is wrong with the text of a query against the schema of the other text
abbrev pub IsNoQuery : (schema text : List ℕ) → AnswerError → Type 0
IsNoQuery schema text (error.Variables fault) = ⊥
IsNoQuery schema text (error.Schema list) = ⊥
IsNoQuery schema text (error.Document list) = IsPreparationOf schema text (Err (Fault list))
IsNoQuery schema text (error.Request step told) = ⊥
IsNoQuery schema text error.Memory = ⊥

-- it is the query that the text means against the schema of the other text
abbrev pub HoldsQuery : (schema text : List ℕ) → Held → Type 0
HoldsQuery schema text (Schema service) = ⊥
HoldsQuery schema text (Query query) = IsOfTexts schema text (arc_value query)
HoldsQuery schema text (Data members) = ⊥
HoldsQuery schema text (Reply bytes) = ⊥
HoldsQuery schema text (Answers table) = ⊥

-- of a text against the schema of this text: the query that it means, or what is wrong with it
abbrev pub ReadsQueryText : (schema text : List ℕ) → Outcome → Type 0
ReadsQueryText schema text outcome = Reads (HoldsQuery schema text) (IsNoQuery schema text) outcome

-- of bytes, which may be no text
pub data ReadsQueryBytes (schema bytes : List ℕ) : Outcome → Type 0 where
  text : (outcome : Outcome) → IsUtf8 bytes → ReadsQueryText schema bytes outcome → ReadsQueryBytes schema bytes outcome
  no_text : ¬ (IsUtf8 bytes) → ReadsQueryBytes schema bytes Unread

-- against what a handle holds, which may be no schema
abbrev pub ReadsQuery : Option Held → List ℕ → Outcome → Type 0
ReadsQuery None bytes outcome = outcome ≡ WrongHandle
ReadsQuery (Some (Schema service)) bytes outcome = ReadsQueryBytes (arc_value service) bytes outcome
ReadsQuery (Some (Query query)) bytes outcome = outcome ≡ WrongHandle
ReadsQuery (Some (Data members)) bytes outcome = outcome ≡ WrongHandle
ReadsQuery (Some (Reply reply)) bytes outcome = outcome ≡ WrongHandle
ReadsQuery (Some (Answers table)) bytes outcome = outcome ≡ WrongHandle
