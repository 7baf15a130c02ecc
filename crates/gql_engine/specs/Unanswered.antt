-- Why there is no response to what is wanted; each later step says that what comes before it passed.
use Rattle.std.specs.Prelude.{◌≡◌, true, List, [], ◌∷◌, None, Err}
use Rattle.gql_coerce.specs.Variables.{coerced_variables}
use Rattle.gql_coerce.specs.declared.fault.CoercionFault.{CoercionFault}
use Rattle.gql_diag.specs.List.{Diagnostics}
use Rattle.gql_response.specs.RequestFault.{request_error}
use Rattle.gql_document_types.specs.ChosenOperation.{chosen, refusal, why_none}
use Rattle.gql_document_types.specs.declared.operation.Operation.{Operation}
use Rattle.gql_collect.specs.Nested.{Place}
use Rattle.gql_collect.specs.Refusal.{IsFoundDeep, too_deep}
use Rattle.gql_collect.specs.RequestErrors.{request_error as fault_told}
use Rattle.gql_diag.specs.Refusal.{errors_of}
use Rattle.gql_response.specs.declared.graphql_error.GraphQLError.{GraphQLError}
use Rattle.gql_engine.specs.Meant.{AreFaults}
use Rattle.gql_engine.specs.Depths.{IsShallow}
use Rattle.gql_engine.specs.Ready.{IsChosen, MeantBy}
use Rattle.gql_engine.specs.Wanted.{Wanted}

-- the document has no such operation, and the error says so (GraphQL October 2021, section 6.1)
pub record IsUnchosen (wanted : Wanted) (error : GraphQLError) : Type 0 where
  pub meant : MeantBy wanted
  pub none : chosen wanted.operation_name meant.document.operations ≡ None
  pub told : error ≡ request_error (refusal (why_none wanted.operation_name meant.document.operations)) meant.document.sources

-- introspection is on and the operation goes too deep, and the error says where that shows first (section 4)
pub record IsTooDeep (wanted : Wanted) (error : GraphQLError) : Type 0 where
  pub meant : MeantBy wanted
  pub operation : Operation
  pub is_chosen : IsChosen wanted meant operation
  pub on : wanted.introspection ≡ true
  pub place : Place
  pub deep : IsFoundDeep meant.document.fragments operation.selection_set.selections place
  pub told : error ≡ request_error (too_deep place) meant.document.sources

-- a variable of the operation is not coerced, and the error says what its fault is (section 6.1.2)
pub record IsUncoerced (wanted : Wanted) (error : GraphQLError) : Type 0 where
  pub meant : MeantBy wanted
  pub operation : Operation
  pub is_chosen : IsChosen wanted meant operation
  pub is_shallow : IsShallow wanted.introspection meant.document operation
  pub fault : CoercionFault
  pub fails : coerced_variables meant.schema.types operation.variables wanted.variables ≡ Err fault
  pub told : error ≡ request_error (fault_told fault) meant.document.sources

-- the first step that fails, with the errors that tell it
pub data Unanswered (wanted : Wanted) : List GraphQLError → Type 0 where
  no_texts : (list : Diagnostics) → AreFaults wanted.schema wanted.query list → Unanswered wanted (errors_of list)
  no_operation : (error : GraphQLError) → IsUnchosen wanted error → Unanswered wanted (error ∷ [])
  no_depth : (error : GraphQLError) → IsTooDeep wanted error → Unanswered wanted (error ∷ [])
  no_variables : (error : GraphQLError) → IsUncoerced wanted error → Unanswered wanted (error ∷ [])
