-- What services are made of and what they are asked. Want of memory alone is free.
use Rattle.std.specs.Prelude.{◌≡◌, ℕ, List, Result, Ok, Err}
use Rattle.jb_text.specs.declared.refused.Refused.{Refused}
use Rattle.jb_text.specs.declared.refused.Refused.TheVariants.{Fault, Memory}
use Rattle.gql_diag.specs.List.{Diagnostics}
use Rattle.gql_parser.specs.SchemaFaults.{SchemaFaults}
use Rattle.gql_parser.specs.SchemaText.{SchemaText}
use Rattle.gql_schema_types.specs.declared.schema.Schema.{Schema}
use Rattle.gql_engine.specs.AnswerError.{Call, call_of}
use Rattle.gql_engine.specs.AtHand.{TwoTexts}
use Rattle.gql_engine.specs.Meant.{IsNoDocument, Meant}
use Rattle.gql_engine.specs.declared.question.Question.{Question}

-- it is of this text, which means a schema
pub record IsOfText (text service : List ℕ) : Type 0 where
  pub is : service ≡ text
  pub schema : Schema
  pub means : SchemaText text schema

-- the service of a text, or what is wrong with the text
abbrev pub IsServiceOf : List ℕ → Result (List ℕ) (Refused Diagnostics) → Type 0
IsServiceOf text (Ok service) = IsOfText text service
IsServiceOf text (Err (Fault list)) = SchemaFaults text list
IsServiceOf text (Err Memory) = Unit {0}

-- it is of these texts, which both mean something
pub record IsOfTexts (schema query : List ℕ) (prepared : TwoTexts) : Type 0 where
  pub is : prepared ≡ record { schema = schema; query = query }
  pub meant : Meant schema query

-- a query prepared for a service of this schema's text, or what is wrong with the query's text against that schema
abbrev pub IsPreparationOf : (schema query : List ℕ) → Result TwoTexts (Refused Diagnostics) → Type 0
IsPreparationOf schema query (Ok prepared) = IsOfTexts schema query prepared
IsPreparationOf schema query (Err (Fault list)) = IsNoDocument schema query list
IsPreparationOf schema query (Err Memory) = Unit {0}

-- the call for an answer that a question to a service of this text stands for
abbrev pub asked_of : List ℕ → Question → Call
asked_of schema question = call_of schema question.query.now question.operation_name question.variables.now question.introspection
