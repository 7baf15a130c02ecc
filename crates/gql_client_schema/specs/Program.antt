-- What the program writes of an answer.
use Rattle.std.specs.Prelude.{◌≡◌, ℕ, Bool, true, false, List, String, [], ◌∷◌, ◌++◌, Option, Some, None, map, codes}
use Rattle.std.specs.declared.alloc.Global.{Global}
use Rattle.std.specs.Fmt.{decimal}
use Rattle.std.specs.List.{flat_map}
use Rattle.gql_diag.specs.List.{Diagnostics}
use Rattle.gql_diag.specs.Report.{report_text}
use Rattle.gql_diag.specs.Reported.{data_reported, message_alone}
use Rattle.gql_diag_messages.specs.Details.{message_of}
use Rattle.gql_diag_messages.specs.declared.diagnostic_data.DiagnosticData.{DiagnosticData}
use Rattle.gql_source.specs.File.{Files}
use Rattle.jb_io.specs.Reply.{line}
use Rattle.jb_print.specs.Compact.{compact}
use Rattle.jb_read.specs.KindName.{kind_name}
use Rattle.jb_read.specs.declared.fault.ReadFault.{ReadFault}
use Rattle.jb_tree.specs.declared.value.Value.TheVariants as json
use Rattle.gql_response.specs.Response.{segment_value}
use Rattle.gql_client_schema.specs.ClientSchema.{HasCause, IsClientSchema}
use Rattle.gql_client_schema.specs.Reading.{Steps}
use Rattle.gql_client_schema.specs.declared.making.ClientFault.{ClientFault}
use Rattle.gql_client_schema.specs.declared.making.ClientFault.TheVariants.{Read, Shape, Schema}
use Rattle.gql_client_schema.specs.declared.making.ClientSchema.{ClientSchema}
use Rattle.gql_client_schema.specs.declared.reply.Printing.{Printing}

abbrev pub usage : List ℕ
usage = line (codes "usage: gql_client_schema")

-- no words
abbrev pub printing_asked : List (String Global) → Option Printing
printing_asked [] = Some (record {})
printing_asked (word ∷ words) = None

-- and the line behind it where introspection of the schema gives other data
abbrev pub with_remark : Bool → List ℕ → List ℕ
with_remark true text = text
with_remark false text = text ++ line (codes "# introspection differs")

-- the text of the schema
abbrev pub output_of : ClientSchema → List ℕ
output_of made = with_remark made.same made.text

abbrev pub read_text : ReadFault → List ℕ
read_text fault = codes "answer: " ++ (kind_name fault.kind ++ (codes " at byte " ++ decimal fault.place))

abbrev pub shape_text : Steps → List ℕ
shape_text path = codes "answer: shape at " ++ compact (json.Array (map segment_value path))

-- the message of a diagnostic, and a line for each place that it is about and that is found
abbrev pub item_report : Files → DiagnosticData → List ℕ
item_report sources item = report_text (data_reported item (message_alone sources (message_of item.details)))

abbrev pub list_reports : Diagnostics → List ℕ
list_reports list = flat_map (item_report list.sources) list.items

abbrev pub refusal_of : ClientFault → List ℕ
refusal_of (Read fault) = line (read_text fault)
refusal_of (Shape path) = line (shape_text path)
refusal_of (Schema list) = list_reports list

-- with its LF the text is what is written of a schema that the bytes show
pub record Prints (bytes text : List ℕ) : Type 0 where
  pub made : ClientSchema
  pub is : IsClientSchema bytes made
  pub written : line text ≡ output_of made

-- with its LF the text is what is written of the cause of a refusal
pub record Refuses (bytes text : List ℕ) : Type 0 where
  pub fault : ClientFault
  pub cause : HasCause bytes fault
  pub written : line text ≡ refusal_of fault
