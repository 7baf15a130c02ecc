-- What an operation costs: how many nodes the data of its response can have at most, where no list has more than so many items (GraphQL
-- October 2021, sections 6.3 and 6.4).
use Rattle.std.specs.Prelude.{◌≡◌, ◌≤◌, ◌<◌, ℕ, List, [], ◌∷◌, Option, Some, None, box_value}
use Rattle.std.specs.Arc.{arc_value}
use Rattle.gql_cost.specs.Told.{IsLimitedTold}
use Rattle.gql_cost.specs.declared.limited_error.LimitedError.TheVariants as limited
use Rattle.gql_cost.specs.Sum.{cost}
use Rattle.gql_document_types.specs.ChosenOperation.{chosen, refusal, why_none}
use Rattle.gql_document_types.specs.declared.document.ExecutableDocument.{ExecutableDocument}
use Rattle.gql_document_types.specs.declared.operation.Operation.{Operation}
use Rattle.gql_engine.specs.AtHand.{TwoTexts}
use Rattle.gql_engine.specs.Told.{IsJsonOf}
use Rattle.gql_response.specs.RequestFault.{request_error}
use Rattle.gql_response.specs.declared.graphql_error.GraphQLError.{GraphQLError}
use Rattle.gql_response.specs.declared.request_error.RequestError.{RequestError}
use Rattle.gql_source.specs.File.{Files}
use Rattle.gql_c.specs.Queries.{IsTextsDocument}
use Rattle.gql_c.specs.Replies.{HoldsReply}
use Rattle.gql_c.specs.Requests.{IsNameRead, IsNoName, name_given}
use Rattle.gql_c.specs.declared.held.Held.{Held}
use Rattle.gql_c.specs.declared.held.Held.TheVariants.{Query}
use Rattle.gql_c.specs.declared.operation_cost.Costing.{Costing}
use Rattle.gql_c.specs.declared.operation_cost.Costing.TheVariants.{Cost, TooCostly, Refused, NoMemory, WrongHandle, Unread}
use Rattle.gql_c.specs.declared.operation_cost.Limit.{Limit}
use Rattle.gql_c.specs.declared.status.TheConstants.{ANSWERED, NO_MEMORY, REFUSED, TOO_COSTLY, UNREAD, WRONG_HANDLE}

-- what an operation of a document costs, where no list has more items than the limit says
abbrev pub cost_in : Limit → ExecutableDocument → Operation → ℕ
cost_in limit document operation = cost limit.items document.fragments operation.selection_set.selections

-- a reply says that the cost is above the limit
abbrev pub SaysTooCostly : Held → Type 0
SaysTooCostly held = HoldsReply (IsLimitedTold limited.TooCostly) held

-- a cost is told, exactly where it is within the limit
abbrev pub IsCost : Limit → ℕ → Costing → Type 0
IsCost limit cost (Cost number) = (number ≡ cost) × (cost ≤ limit.nodes)
IsCost limit cost (TooCostly held) = (limit.nodes < cost) × SaysTooCostly (box_value held)
IsCost limit cost (Refused held) = ⊥
IsCost limit cost NoMemory = Unit {0}
IsCost limit cost WrongHandle = ⊥
IsCost limit cost Unread = ⊥

-- the reply is the JSON of this error
abbrev pub IsErrorTold : GraphQLError → Costing → Type 0
IsErrorTold error (Refused held) = HoldsReply (IsJsonOf (Some (error ∷ []))) (box_value held)
IsErrorTold error NoMemory = Unit {0}
IsErrorTold error costing = ⊥

-- the same of an error whose place is looked up in these files
abbrev pub IsNotChosen : RequestError → Files → Costing → Type 0
IsNotChosen error files costing = IsErrorTold (request_error error files) costing

-- the cost of the operation that was found, or why none was
abbrev pub CostsFound : ExecutableDocument → Option (List ℕ) → Limit → Option Operation → Costing → Type 0
CostsFound document name limit (Some operation) costing = IsCost limit (cost_in limit document operation) costing
CostsFound document name limit None costing = IsNotChosen (refusal (why_none name document.operations)) document.sources costing

-- of the operation of the name, or the only one, in the document that the texts mean (section 6.1)
pub record CostsIn (texts : TwoTexts) (name : Option (List ℕ)) (limit : Limit) (costing : Costing) : Type 0 where
  pub document : ExecutableDocument
  pub meant : IsTextsDocument texts document
  pub costs : CostsFound document name limit (chosen name document.operations) costing

-- the same by the name that counts, which may be no text
pub data CostsNamed (texts : TwoTexts) (name : List ℕ) (flags : ℕ) (limit : Limit) : Costing → Type 0 where
  found : (costing : Costing) → IsNameRead name flags → CostsIn texts (name_given name flags) limit costing → CostsNamed texts name flags limit costing
  unread : IsNoName name flags → CostsNamed texts name flags limit Unread

-- the same of what a handle holds, which may be no query
abbrev pub Costs : Option Held → List ℕ → ℕ → Limit → Costing → Type 0
Costs (Some (Query query)) name flags limit costing = CostsNamed (arc_value query) name flags limit costing
Costs held name flags limit costing = costing ≡ WrongHandle

-- ---- how it is told

-- the cost, and 0 where none is told
abbrev pub number_of : Costing → ℕ
number_of (Cost number) = number
number_of costing = 0

-- each costing has its status, and the reply that it has; a handle that nothing is put into is empty
abbrev pub IsCostTold : Costing → ℕ → Option Held → Type 0
IsCostTold (Cost number) status reply = (status ≡ ANSWERED) × (reply ≡ None)
IsCostTold (TooCostly held) status reply = (status ≡ TOO_COSTLY) × (reply ≡ Some (box_value held))
IsCostTold (Refused held) status reply = (status ≡ REFUSED) × (reply ≡ Some (box_value held))
IsCostTold NoMemory status reply = (status ≡ NO_MEMORY) × (reply ≡ None)
IsCostTold WrongHandle status reply = (status ≡ WRONG_HANDLE) × (reply ≡ None)
IsCostTold Unread status reply = (status ≡ UNREAD) × (reply ≡ None)

-- a costing of which this holds is told so
pub record TellsCost (Holds : Costing → Type 0) (status number : ℕ) (reply : Option Held) : Type 0 where
  pub costing : Costing
  pub holds : Holds costing
  pub is_number : number ≡ number_of costing
  pub told : IsCostTold costing status reply
