-- What the bytes of a text are replied to.
use Rattle.std.specs.Prelude.{◌≡◌, ℕ, List, ◌++◌, codes}
use Rattle.std.specs.Fmt.{decimal}
use Rattle.jb_tree.specs.declared.value.Value.{Value}
use Rattle.jb_read.specs.declared.fault.ReadFault.{ReadFault}
use Rattle.jb_read.specs.Faults.{JsonFault}
use Rattle.jb_read.specs.KindName.{kind_name}
use Rattle.jb_read.specs.Spelling.{JsonText}
use Rattle.jb_tool.specs.declared.style.Style.{Style}
use Rattle.jb_tool.specs.Style.{printed}

abbrev pub fault_text : ReadFault → List ℕ
fault_text fault = kind_name fault.kind ++ (codes " at byte " ++ decimal fault.place)

-- the bytes are the JSON text of a value, and the text is that value's
pub record Prints (style : Style) (bytes text : List ℕ) : Type 0 where
  pub value : Value
  pub reads : JsonText bytes value
  pub prints : text ≡ printed style value

-- the bytes break the rules of JSON first where the text says
pub record Refuses (bytes text : List ℕ) : Type 0 where
  pub fault : ReadFault
  pub breaks : JsonFault bytes fault
  pub says : text ≡ fault_text fault
