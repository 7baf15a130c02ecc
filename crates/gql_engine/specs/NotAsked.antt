-- What the bytes of a request ask, or why they ask nothing.
use Rattle.std.specs.Prelude.{◌≡◌, ℕ, List, ◌++◌, Ok, Err, codes}
use Rattle.std.specs.Fmt.{decimal}
use Rattle.jb_tree.specs.declared.value.Value.{Value}
use Rattle.jb_read.specs.declared.fault.ReadFault.{ReadFault}
use Rattle.jb_read.specs.Spelling.{JsonText}
use Rattle.jb_read.specs.Faults.{JsonFault}
use Rattle.jb_read.specs.KindName.{kind_name}
use Rattle.gql_engine.specs.declared.request_form.RequestFault.{RequestFault}
use Rattle.gql_engine.specs.declared.request_form.RequestForm.{RequestForm}
use Rattle.gql_engine.specs.Request.{Asked, asked, fault_message}

abbrev pub read_message : ReadFault → List ℕ
read_message fault = codes "request: " ++ (kind_name fault.kind ++ (codes " at byte " ++ decimal fault.place))

-- the bytes are the JSON text of this request
pub record IsAsked (form : RequestForm) (bytes : List ℕ) (request : Asked) : Type 0 where
  pub value : Value
  pub read : JsonText bytes value
  pub asks : asked form value ≡ Ok request

-- the bytes are no JSON text, or one of no request; each with the message that tells it
pub data NotAsked (form : RequestForm) (bytes : List ℕ) : List ℕ → Type 0 where
  no_text : (fault : ReadFault) → JsonFault bytes fault → NotAsked form bytes (read_message fault)
  no_request : (value : Value) (fault : RequestFault) → JsonText bytes value → asked form value ≡ Err fault
      → NotAsked form bytes (fault_message fault)
