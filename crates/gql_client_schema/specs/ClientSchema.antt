-- What is made of an answer to the full query, or why nothing is.
use Rattle.std.specs.Prelude.{◌≡◌, ◌↔◌, ℕ, List, IsTrue}
use Rattle.jb_text.specs.declared.refused.Refused.{Refused}
use Rattle.jb_text.specs.declared.refused.Refused.TheVariants as refused
use Rattle.jb_tree.specs.declared.value.Value.{Value}
use Rattle.jb_read.specs.Spelling.{JsonText}
use Rattle.jb_read.specs.Faults.{JsonFault}
use Rattle.gql_diag.specs.List.{Diagnostics}
use Rattle.gql_parser.specs.SchemaFaults.{SchemaFaults}
use Rattle.gql_parser.specs.SchemaText.{SchemaText}
use Rattle.gql_schema_types.specs.declared.schema.Schema.{Schema as SchemaOf}
use Rattle.gql_sdl.specs.Schemas.{schema_text}
use Rattle.gql_sdl.specs.declared.shown.ShownSchema.{ShownSchema}
use Rattle.gql_client_schema.specs.Answers.{GivesAgain, data_in}
use Rattle.gql_client_schema.specs.Parts.{read_answer}
use Rattle.gql_client_schema.specs.Reading.{Gives, Breaks}
use Rattle.gql_client_schema.specs.declared.making.ClientFault.{ClientFault}
use Rattle.gql_client_schema.specs.declared.making.ClientFault.TheVariants.{Read, Shape, Schema}
use Rattle.gql_client_schema.specs.declared.making.ClientSchema.{ClientSchema}

-- The text is the definitions that say what the answer shows, and means a schema; and it is told whether that schema gives the data of
-- the answer again.
pub record IsMade (value : Value) (made : ClientSchema) : Type 0 where
  pub shown : ShownSchema
  pub reads : Gives (read_answer value) shown
  pub is : made.text ≡ schema_text shown
  pub schema : SchemaOf
  pub means : SchemaText made.text schema
  pub same : IsTrue made.same ↔ GivesAgain schema (data_in value)

pub record IsClientSchema (bytes : List ℕ) (made : ClientSchema) : Type 0 where
  pub value : Value
  pub spells : JsonText bytes value
  pub made_of : IsMade value made

-- something is wrong with the definitions that say what the value shows
pub record AreWrong (value : Value) (list : Diagnostics) : Type 0 where
  pub shown : ShownSchema
  pub reads : Gives (read_answer value) shown
  pub faults : SchemaFaults (schema_text shown) list

pub record Spells (bytes : List ℕ) (Holds : Value → Type 0) : Type 0 where
  pub value : Value
  pub spells : JsonText bytes value
  pub holds : Holds value

-- the cause of each refusal but that for memory, in order: the bytes are no JSON text; a part of the value breaks a rule, and none before
-- it does; something is wrong with the schema
abbrev pub HasCause : List ℕ → ClientFault → Type 0
HasCause bytes (Read fault) = JsonFault bytes fault
HasCause bytes (Shape path) = Spells bytes (λ value. Breaks (read_answer value) path)
HasCause bytes (Schema list) = Spells bytes (λ value. AreWrong value list)

abbrev pub IsRefused : List ℕ → Refused ClientFault → Type 0
IsRefused bytes (refused.Fault fault) = HasCause bytes fault
IsRefused bytes refused.Memory = Unit {0}

-- the refusal that comes where the fault has its cause: that one, or out of memory
abbrev pub ComesFor : ClientFault → Refused ClientFault → Type 0
ComesFor fault (refused.Fault told) = fault ≡ told
ComesFor fault refused.Memory = Unit {0}
