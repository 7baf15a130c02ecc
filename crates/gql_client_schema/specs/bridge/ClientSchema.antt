-- What only private clauses and proofs cite, beside `ClientSchema`.
use Rattle.std.specs.Prelude.{◌≡◌, ◌↔◌, IsTrue, Result, Ok, Err}
use Rattle.jb_text.specs.declared.refused.Refused.{Refused}
use Rattle.jb_text.specs.declared.refused.Refused.TheVariants as refused
use Rattle.jb_tree.specs.declared.value.Value.{Value}
use Rattle.jb_read.specs.declared.fault.ReadFault.{ReadFault}
use Rattle.gql_parser.specs.SchemaFaults.{SchemaFaults}
use Rattle.gql_parser.specs.SchemaText.{SchemaText}
use Rattle.gql_schema_types.specs.declared.schema.Schema.{Schema as SchemaOf}
use Rattle.gql_sdl.specs.Schemas.{schema_text}
use Rattle.gql_sdl.specs.declared.shown.ShownSchema.{ShownSchema}
use Rattle.gql_client_schema.specs.Answers.{GivesAgain, data_in}
use Rattle.gql_client_schema.specs.Parts.{read_answer}
use Rattle.gql_client_schema.specs.Reading.{Breaks}
use Rattle.gql_client_schema.specs.declared.making.ClientFault.{ClientFault}
use Rattle.gql_client_schema.specs.declared.making.ClientFault.TheVariants.{Read, Shape, Schema}
use Rattle.gql_client_schema.specs.declared.making.ClientSchema.{ClientSchema}
use Rattle.gql_client_schema.specs.ClientSchema.{IsMade, AreWrong}

-- why nothing is made of a value
abbrev pub IsUnmade : Value → ClientFault → Type 0
IsUnmade value (Read fault) = ⊥
IsUnmade value (Shape path) = Breaks (read_answer value) path
IsUnmade value (Schema list) = AreWrong value list

-- ---- on the way

-- the refusal of bytes that are no JSON text
abbrev pub unread_as : Refused ReadFault → Refused ClientFault
unread_as (refused.Fault fault) = refused.Fault (Read fault)
unread_as refused.Memory = refused.Memory

abbrev pub IsMadeOf : Value → Result ClientSchema (Refused ClientFault) → Type 0
IsMadeOf value (Ok made) = IsMade value made
IsMadeOf value (Err (refused.Fault fault)) = IsUnmade value fault
IsMadeOf value (Err refused.Memory) = Unit {0}

-- the same of what is shown
pub record IsMadeOfShown (shown : ShownSchema) (value : Value) (made : ClientSchema) : Type 0 where
  pub is : made.text ≡ schema_text shown
  pub schema : SchemaOf
  pub means : SchemaText made.text schema
  pub same : IsTrue made.same ↔ GivesAgain schema (data_in value)

abbrev pub IsFaultOfShown : ShownSchema → ClientFault → Type 0
IsFaultOfShown shown (Schema list) = SchemaFaults (schema_text shown) list
IsFaultOfShown shown _ = ⊥

abbrev pub IsOfShown : ShownSchema → Value → Result ClientSchema (Refused ClientFault) → Type 0
IsOfShown shown value (Ok made) = IsMadeOfShown shown value made
IsOfShown shown value (Err (refused.Fault fault)) = IsFaultOfShown shown fault
IsOfShown shown value (Err refused.Memory) = Unit {0}
