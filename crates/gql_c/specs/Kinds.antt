-- Which kind of operation a request is for: sections 2.3 and 6.1 of GraphQL October 2021.
use Rattle.std.specs.Prelude.{◌≡◌, ℕ, List, Option, Some, None}
use Rattle.std.specs.Arc.{arc_value}
use Rattle.gql_ast_base.specs.declared.operation_type.OperationType.TheVariants as type
use Rattle.gql_document_types.specs.ChosenOperation.{chosen}
use Rattle.gql_document_types.specs.declared.document.ExecutableDocument.{ExecutableDocument}
use Rattle.gql_document_types.specs.declared.operation.Operation.{Operation}
use Rattle.gql_engine.specs.AtHand.{TwoTexts}
use Rattle.gql_c.specs.Queries.{IsTextsDocument}
use Rattle.gql_c.specs.Requests.{IsNameRead, IsNoName, name_given}
use Rattle.gql_c.specs.declared.held.Held.{Held}
use Rattle.gql_c.specs.declared.held.Held.TheVariants.{Schema, Query, Data, Reply, Answers}
use Rattle.gql_c.specs.declared.operation_kind.Choice.{Choice}
use Rattle.gql_c.specs.declared.operation_kind.Choice.TheVariants as choice
use Rattle.gql_c.specs.declared.status.TheConstants.{ANSWERED, NO_MEMORY, REFUSED, UNREAD, WRONG_HANDLE}

abbrev pub kind_of : Choice → ℕ
kind_of (choice.Operation type.Query) = 1
kind_of (choice.Operation type.Mutation) = 2
kind_of (choice.Operation type.Subscription) = 3
kind_of other = 0

abbrev pub status_of : Choice → ℕ
status_of (choice.Operation ty) = ANSWERED
status_of choice.Nothing = REFUSED
status_of choice.NoMemory = NO_MEMORY
status_of choice.WrongHandle = WRONG_HANDLE
status_of choice.Unread = UNREAD

-- the operation that was found is of this type, or none was found
abbrev pub IsChosenOf : Option Operation → Choice → Type 0
IsChosenOf found (choice.Operation ty) = (operation : Operation) × ((found ≡ Some operation) × (ty ≡ operation.operation_type))
IsChosenOf found choice.Nothing = found ≡ None
IsChosenOf found choice.NoMemory = found ≡ None
IsChosenOf found choice.WrongHandle = ⊥
IsChosenOf found choice.Unread = ⊥

-- the operation of the name, or the only one, in the document that the texts mean
pub record IsChosenIn (texts : TwoTexts) (name : Option (List ℕ)) (told : Choice) : Type 0 where
  pub document : ExecutableDocument
  pub meant : IsTextsDocument texts document
  pub is : IsChosenOf (chosen name document.operations) told

-- the same by the name that counts, which may be no text
pub data IsChoiceNamed (texts : TwoTexts) (name : List ℕ) (flags : ℕ) : Choice → Type 0 where
  found : (told : Choice) → IsNameRead name flags → IsChosenIn texts (name_given name flags) told → IsChoiceNamed texts name flags told
  unread : IsNoName name flags → IsChoiceNamed texts name flags choice.Unread

-- the same of what a handle holds, which may be no query
abbrev pub IsChoice : Option Held → List ℕ → ℕ → Choice → Type 0
IsChoice None name flags told = told ≡ choice.WrongHandle
IsChoice (Some (Schema service)) name flags told = told ≡ choice.WrongHandle
IsChoice (Some (Query query)) name flags told = IsChoiceNamed (arc_value query) name flags told
IsChoice (Some (Data members)) name flags told = told ≡ choice.WrongHandle
IsChoice (Some (Reply reply)) name flags told = told ≡ choice.WrongHandle
IsChoice (Some (Answers table)) name flags told = told ≡ choice.WrongHandle

-- a choice of which this holds is told by the status and the number of the kind
pub record TellsKind (Holds : Choice → Type 0) (status kind : ℕ) : Type 0 where
  pub told : Choice
  pub holds : Holds told
  pub is_status : status ≡ status_of told
  pub is_kind : kind ≡ kind_of told
