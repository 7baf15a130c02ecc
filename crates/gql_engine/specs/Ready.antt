-- What a response is of, step by step: what the texts mean, which operation is chosen, its depth, and its variables.
use Rattle.std.specs.Prelude.{◌≡◌, Some, Ok}
use Rattle.gql_coerce.specs.Variables.{coerced_variables}
use Rattle.gql_document_types.specs.ChosenOperation.{chosen}
use Rattle.gql_document_types.specs.declared.operation.Operation.{Operation}
use Rattle.gql_engine.specs.Meant.{Meant}
use Rattle.gql_engine.specs.Depths.{IsShallow}
use Rattle.gql_engine.specs.Wanted.{Members, Wanted}

-- both texts mean something: the schema, and the document against it (GraphQL October 2021, sections 2, 3 and 5)
abbrev pub MeantBy : Wanted → Type 0
MeantBy wanted = Meant wanted.schema wanted.query

-- the operation is the one of the name, or the only one (section 6.1)
abbrev pub IsChosen : (wanted : Wanted) → MeantBy wanted → Operation → Type 0
IsChosen wanted meant operation = chosen wanted.operation_name meant.document.operations ≡ Some operation

-- nothing is in the way of a response: the texts mean something, there is the operation, it is not too deep where introspection is on
-- (section 4), and its variables are coerced (section 6.1.2)
pub record Ready (wanted : Wanted) : Type 0 where
  pub meant : MeantBy wanted
  pub operation : Operation
  pub is_chosen : IsChosen wanted meant operation
  pub is_shallow : IsShallow wanted.introspection meant.document operation
  pub variables : Members
  pub are_coerced : coerced_variables meant.schema.types operation.variables wanted.variables ≡ Ok variables
