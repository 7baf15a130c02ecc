-- What is wrong with texts, for people: sections 2, 3 and 5 of GraphQL October 2021.
use Rattle.std.specs.Prelude.{◌≡◌, ℕ, List, [], box_value}
use Rattle.std.specs.Str.{IsUtf8}
use Rattle.gql_engine.specs.Meant.{Meant}
use Rattle.gql_engine.specs.Reports.{reports_of}
use Rattle.gql_engine.specs.declared.answer_error.AnswerError.{AnswerError}
use Rattle.gql_engine.specs.declared.answer_error.AnswerError.TheVariants as error
use Rattle.gql_c.specs.Queries.{IsNoQuery}
use Rattle.gql_c.specs.Replies.{HoldsReply}
use Rattle.gql_c.specs.Schemas.{IsNoSchema}
use Rattle.gql_c.specs.declared.outcome.Outcome.{Outcome}
use Rattle.gql_c.specs.declared.outcome.Outcome.TheVariants.{Answered, Refused, NoMemory, WrongHandle, Unread}

-- the bytes are the reports of the diagnostics of a text
abbrev pub AreReportsOf : AnswerError → List ℕ → Type 0
AreReportsOf (error.Variables fault) bytes = ⊥
AreReportsOf (error.Schema list) bytes = bytes ≡ reports_of list
AreReportsOf (error.Document list) bytes = bytes ≡ reports_of list
AreReportsOf (error.Request step told) bytes = ⊥
AreReportsOf error.Memory bytes = ⊥

-- the bytes are the reports of what is wrong with the schema, or with the query against it
pub data AreReports (schema query bytes : List ℕ) : Type 0 where
  of_schema : (refusal : AnswerError) → IsNoSchema schema refusal → AreReportsOf refusal bytes → AreReports schema query bytes
  of_query : (refusal : AnswerError) → IsNoQuery schema query refusal → AreReportsOf refusal bytes → AreReports schema query bytes

-- of two texts: nothing where both mean something, or what is wrong
abbrev pub ChecksTexts : (schema query : List ℕ) → Outcome → Type 0
ChecksTexts schema query (Answered held) = Meant schema query × HoldsReply (λ bytes. bytes ≡ []) (box_value held)
ChecksTexts schema query (Refused held) = HoldsReply (AreReports schema query) (box_value held)
ChecksTexts schema query NoMemory = Unit {0}
ChecksTexts schema query WrongHandle = ⊥
ChecksTexts schema query Unread = ⊥

-- of bytes, which may be no texts
pub data ChecksBytes (schema query : List ℕ) : Outcome → Type 0 where
  texts : (outcome : Outcome) → IsUtf8 schema → IsUtf8 query → ChecksTexts schema query outcome → ChecksBytes schema query outcome
  no_schema : ¬ (IsUtf8 schema) → ChecksBytes schema query Unread
  no_query : ¬ (IsUtf8 query) → ChecksBytes schema query Unread
