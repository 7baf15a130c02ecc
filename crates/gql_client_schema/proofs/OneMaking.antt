-- What is made of an answer, and what it is refused for, is one.
use Rattle.std.proofs.Common.{◌≡◌, ℕ, List, Result, Ok, Err, IfOk, IfErr, IsErrAnd, refl, sym, ap, ◌∙◌, subst}
use Rattle.jb_text.specs.declared.refused.Refused.{Refused}
use Rattle.jb_text.specs.declared.refused.Refused.TheVariants as refused
use Rattle.jb_tree.specs.declared.value.Value.{Value}
use Rattle.jb_read.specs.Spelling.{JsonText}
use Rattle.jb_read.specs.Faults.{JsonFault, IsFaultOf}
use Rattle.jb_read.specs.declared.fault.ReadFault.{ReadFault}
use Rattle.gql_diag.specs.List.{Diagnostics}
use Rattle.gql_parser.specs.SchemaFaults.{SchemaFaults}
use Rattle.gql_parser.specs.SchemaText.{SchemaText}
use Rattle.gql_schema_types.specs.declared.schema.Schema.{Schema as SchemaOf}
use Rattle.gql_sdl.specs.Schemas.{schema_text}
use Rattle.gql_sdl.specs.declared.shown.ShownSchema.{ShownSchema}
use Rattle.gql_client_schema.specs.ClientSchema.{AreWrong, ComesFor, HasCause, IsClientSchema, IsMade, IsRefused, Spells}
use Rattle.gql_client_schema.specs.bridge.ClientSchema.{IsFaultOfShown, IsMadeOf, IsMadeOfShown, IsOfShown, IsUnmade, unread_as}
use Rattle.gql_client_schema.specs.Parts.{read_answer}
use Rattle.gql_client_schema.specs.Reading.{Gives, Breaks, Steps}
use Rattle.gql_client_schema.specs.declared.making.ClientFault.{ClientFault}
use Rattle.gql_client_schema.specs.declared.making.ClientFault.TheVariants.{Read, Shape, Schema}
use Rattle.gql_client_schema.specs.declared.making.ClientSchema.{ClientSchema}
use Rattle.gql_client_schema.proofs.OneConstant.{OneConstant}
use Rattle.gql_client_schema.proofs.OneReading.{one_gives, not_both, one_breaks}

-- ---- of what is shown

pub of_shown : (shown : ShownSchema) (value : Value) (r : Result ClientSchema (Refused ClientFault)) → Gives (read_answer value) shown → IsOfShown shown value r → IsMadeOf value r
of_shown shown value (Ok made) reads h = record { shown = shown; reads = reads; is = h.is; schema = h.schema; means = h.means; same = h.same }
of_shown shown value (Err (refused.Fault (Read fault))) reads h = h
of_shown shown value (Err (refused.Fault (Shape path))) reads h = absurd h
of_shown shown value (Err (refused.Fault (Schema list))) reads h = record { shown = shown; reads = reads; faults = h }
of_shown shown value (Err refused.Memory) reads h = tt

-- ---- of a value

pub made_is : (bytes : List ℕ) (value : Value) (r : Result ClientSchema (Refused ClientFault)) → JsonText bytes value → IsMadeOf value r → IfOk r (IsClientSchema bytes)
made_is bytes value (Ok made) spells h = record { value = value; spells = spells; made_of = h }
made_is bytes value (Err e) spells h = tt

pub refused_is : (bytes : List ℕ) (value : Value) (r : Result ClientSchema (Refused ClientFault)) → JsonText bytes value → IsMadeOf value r → IfErr r (IsRefused bytes)
refused_is bytes value (Ok made) spells h = tt
refused_is bytes value (Err (refused.Fault (Read fault))) spells h = absurd h
refused_is bytes value (Err (refused.Fault (Shape path))) spells h = record { value = value; spells = spells; holds = h }
refused_is bytes value (Err (refused.Fault (Schema list))) spells h = record { value = value; spells = spells; holds = h }
refused_is bytes value (Err refused.Memory) spells h = tt

-- ---- and of nothing else

abbrev pub OneValue : Type 0
OneValue = (bytes : List ℕ) (v w : Value) → JsonText bytes v → JsonText bytes w → v ≡ w

abbrev pub OneFault : Type 0
OneFault = (bytes : List ℕ) (f g : ReadFault) → JsonFault bytes f → JsonFault bytes g → f ≡ g

abbrev pub NotBoth : Type 0
NotBoth = (bytes : List ℕ) (v : Value) (f : ReadFault) → JsonText bytes v → JsonFault bytes f → ⊥

abbrev pub NoFaults : Type 0
NoFaults = (text : List ℕ) (schema : SchemaOf) (list : Diagnostics) → SchemaText text schema → SchemaFaults text list → ⊥

abbrev pub OneList : Type 0
OneList = (text : List ℕ) (one other : Diagnostics) → SchemaFaults text one → SchemaFaults text other → one ≡ other

module _ (constant : OneConstant) (none : NoFaults) (lists : OneList) (value : Value) where
  shape_exact : (r : Result ClientSchema (Refused ClientFault)) → IsMadeOf value r → (path : Steps) → Breaks (read_answer value) path → IsErrAnd r (ComesFor (Shape path))
  shape_exact (Ok made) h path breaks = absurd (not_both constant (read_answer value) h.shown path h.reads breaks)
  shape_exact (Err (refused.Fault (Read fault))) h path breaks = absurd h
  shape_exact (Err (refused.Fault (Shape told))) h path breaks = ap Shape (one_breaks constant (read_answer value) path told breaks h)
  shape_exact (Err (refused.Fault (Schema list))) h path breaks = absurd (not_both constant (read_answer value) h.shown path h.reads breaks)
  shape_exact (Err refused.Memory) h path breaks = tt

  same_text : (one other : ShownSchema) → Gives (read_answer value) one → Gives (read_answer value) other → schema_text one ≡ schema_text other
  same_text one other h k = ap schema_text (one_gives constant (read_answer value) one other h k)

  schema_exact : (r : Result ClientSchema (Refused ClientFault)) → IsMadeOf value r → (list : Diagnostics) → AreWrong value list → IsErrAnd r (ComesFor (Schema list))
  schema_exact (Ok made) h list wrong =
      absurd (none made.text h.schema list h.means
      (subst (λ (t : List ℕ). SchemaFaults t list) (same_text wrong.shown h.shown wrong.reads h.reads ∙ sym h.is) wrong.faults))
  schema_exact (Err (refused.Fault (Read fault))) h list wrong = absurd h
  schema_exact (Err (refused.Fault (Shape told))) h list wrong = absurd (not_both constant (read_answer value) wrong.shown told wrong.reads h)
  schema_exact (Err (refused.Fault (Schema told))) h list wrong =
      ap Schema (lists (schema_text h.shown) list told
      (subst (λ (t : List ℕ). SchemaFaults t list) (same_text wrong.shown h.shown wrong.reads h.reads) wrong.faults) h.faults)
  schema_exact (Err refused.Memory) h list wrong = tt

  pub exact_is : OneValue → NotBoth → (bytes : List ℕ) (r : Result ClientSchema (Refused ClientFault)) → JsonText bytes value → IsMadeOf value r → (fault : ClientFault) → HasCause bytes fault
      → IsErrAnd r (ComesFor fault)
  exact_is one both bytes r spells h (Read fault) cause = absurd (both bytes value fault spells cause)
  exact_is one both bytes r spells h (Shape path) cause =
      shape_exact r h path (subst (λ (v : Value). Breaks (read_answer v) path) (one bytes cause.value value cause.spells spells) cause.holds)
  exact_is one both bytes r spells h (Schema list) cause =
      schema_exact r h list (subst (λ (v : Value). AreWrong v list) (one bytes cause.value value cause.spells spells) cause.holds)

-- ---- bytes that are no JSON text

pub read_refused : (bytes : List ℕ) (e : Refused ReadFault) → IsFaultOf bytes e → IsRefused bytes (unread_as e)
read_refused bytes (refused.Fault found) broken = broken
read_refused bytes refused.Memory broken = tt

module _ (one : OneFault) (both : NotBoth) (bytes : List ℕ) where
  fault_exact : (found : ReadFault) → JsonFault bytes found → (fault : ClientFault) → HasCause bytes fault → ComesFor fault (refused.Fault (Read found))
  fault_exact found broken (Read fault) cause = ap Read (one bytes fault found cause broken)
  fault_exact found broken (Shape path) cause = absurd (both bytes cause.value found cause.spells broken)
  fault_exact found broken (Schema list) cause = absurd (both bytes cause.value found cause.spells broken)

  pub read_exact : (e : Refused ReadFault) → IsFaultOf bytes e → (fault : ClientFault) → HasCause bytes fault → ComesFor fault (unread_as e)
  read_exact (refused.Fault found) broken fault cause = fault_exact found broken fault cause
  read_exact refused.Memory broken fault cause = tt
