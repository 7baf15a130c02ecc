-- When each refusal of a call for an answer comes.
use Rattle.std.specs.Prelude.{◌≡◌, ℕ, Bool, List, Option, Some, None}
use Rattle.std.specs.Borrow.{Bor}
use Rattle.jb_tree.specs.declared.value.Value.{Value}
use Rattle.jb_tree.specs.Value.{object_members}
use Rattle.jb_read.specs.Spelling.{JsonText}
use Rattle.jb_read.specs.Faults.{JsonFault}
use Rattle.gql_parser.specs.SameFaults.{TellTheSame}
use Rattle.gql_document_types.specs.ChosenOperation.{text_of}
use Rattle.gql_parser.specs.SchemaFaults.{SchemaFaults}
use Rattle.gql_engine.specs.Meant.{IsNoDocument}
use Rattle.gql_engine.specs.Ready.{Ready}
use Rattle.gql_engine.specs.Unanswered.{IsUnchosen, IsTooDeep, IsUncoerced}
use Rattle.gql_engine.specs.Wanted.{Members, Wanted}
use Rattle.gql_engine.specs.declared.answer_error.RequestKind.TheVariants.{Operation, Depth, Variable}
use Rattle.gql_engine.specs.declared.answer_error.VariablesFault.TheVariants.{Read, NotObject}
use Rattle.gql_engine.specs.declared.answer_error.AnswerError.{AnswerError}
use Rattle.gql_engine.specs.declared.answer_error.AnswerError.TheVariants.{Variables, Schema, Document, Request, Memory}

-- what a call is given: two texts, the name of an operation, the text of the variables, and whether introspection is on
pub record Call : Type 0 where
  pub schema : List ℕ
  pub query : List ℕ
  pub operation_name : Option (List ℕ)
  pub variables : List ℕ
  pub introspection : Bool

abbrev pub call_of : List ℕ → List ℕ → Option (Bor (List ℕ)) → List ℕ → Bool → Call
call_of schema query operation_name variables introspection = record {
  schema = schema;
  query = query;
  operation_name = text_of operation_name;
  variables = variables;
  introspection = introspection;
}

-- what it wants with these members of the variables' object
abbrev pub wanted_with : Call → Members → Wanted
wanted_with call members = record {
  schema = call.schema;
  query = call.query;
  operation_name = call.operation_name;
  variables = members;
  introspection = call.introspection;
}

-- the variables' text is a JSON text of another value than an object
pub record IsNoObject (text : List ℕ) : Type 0 where
  pub value : Value
  pub read : JsonText text value
  pub other : object_members value ≡ None

-- the variables' text is a JSON text of an object with these members
pub record IsObjectText (text : List ℕ) (members : Members) : Type 0 where
  pub value : Value
  pub read : JsonText text value
  pub object : object_members value ≡ Some members

-- the variables are an object, and this holds of what is wanted
pub record Asks (call : Call) (Holds : Wanted → Type 0) : Type 0 where
  pub members : Members
  pub object : IsObjectText call.variables members
  pub holds : Holds (wanted_with call members)

-- the cause of each refusal but that for memory, in the order of the steps; each later cause says that what comes before it passed
abbrev pub HasCause : Call → AnswerError → Type 0
HasCause call (Variables (Read fault)) = JsonFault call.variables fault
HasCause call (Variables NotObject) = IsNoObject call.variables
HasCause call (Schema list) = Asks call (λ wanted. SchemaFaults wanted.schema list)
HasCause call (Document list) = Asks call (λ wanted. IsNoDocument wanted.schema wanted.query list)
HasCause call (Request Operation error) = Asks call (λ wanted. IsUnchosen wanted error)
HasCause call (Request Depth error) = Asks call (λ wanted. IsTooDeep wanted error)
HasCause call (Request Variable error) = Asks call (λ wanted. IsUncoerced wanted error)
HasCause call Memory = Unit {0}

-- the refusal that comes where the first one has its cause: that one, or out of memory. Of a document, what is wrong is told in
-- this or in that list of the same diagnostics
abbrev pub ComesFor : AnswerError → AnswerError → Type 0
ComesFor error Memory = Unit {0}
ComesFor (Document list) (Document told) = TellTheSame list told
ComesFor error told = error ≡ told

-- a valid request: there is no cause of a refusal
abbrev pub IsValid : Call → Type 0
IsValid call = Asks call Ready

-- the variables' text is refused as none of an object, or when out of memory
abbrev pub IsNoVariables : List ℕ → AnswerError → Type 0
IsNoVariables variables (Variables (Read fault)) = JsonFault variables fault
IsNoVariables variables (Variables NotObject) = IsNoObject variables
IsNoVariables variables Memory = Unit {0}
IsNoVariables variables _ = ⊥
