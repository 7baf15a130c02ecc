-- The operation that a request is for: section 6.1 of GraphQL October 2021.
use Rattle.std.specs.Prelude.{◌≡◌, ℕ, Bool, false, List, [], ◌∷◌, ◌++◌, length, Option, Some, None, Result, Ok, Err, codes}
use Rattle.std.specs.Borrow.{Bor}
use Rattle.std.specs.Fmt.{decimal}
use Rattle.std.specs.List.{find}
use Rattle.std.specs.Option.{option_map, option_map_or}
use Rattle.std.specs.Str.{bytes_eq}
use Rattle.jb_text.specs.declared.refused.Refused.{Refused}
use Rattle.jb_text.specs.declared.refused.Refused.TheVariants.{Fault, Memory}
use Rattle.gql_ast_base.specs.Names.{Named}
use Rattle.gql_response.specs.declared.request_error.RequestError.{RequestError}
use Rattle.gql_document_types.specs.declared.operation.Operation.{Operation}

abbrev pub has_name : List ℕ → Operation → Bool
has_name name operation = option_map_or (λ (own : Named). bytes_eq name own.text) operation.name false

abbrev pub operation_called : List ℕ → List Operation → Option Operation
operation_called name operations = find (has_name name) operations

abbrev pub only_operation : List Operation → Option Operation
only_operation (only ∷ []) = Some only
only_operation _ = None

-- the operation of the name, or the only one where there is no name
abbrev pub chosen : Option (List ℕ) → List Operation → Option Operation
chosen (Some name) operations = operation_called name operations
chosen None operations = only_operation operations

abbrev pub not_defined : List ℕ → List ℕ
not_defined name = codes "operation `" ++ (name ++ codes "` is not defined")

abbrev pub no_name : ℕ → List ℕ
no_name count = codes "document has " ++ (decimal count ++ codes " operations and no name was given")

-- why there is no such operation
abbrev pub why_none : Option (List ℕ) → List Operation → List ℕ
why_none (Some name) operations = not_defined name
why_none None operations = no_name (length operations)

abbrev pub refusal : List ℕ → RequestError
refusal message = record { message = message; location = None; is_suspected_validation_bug = false }

abbrev pub text_of : Option (Bor (List ℕ)) → Option (List ℕ)
text_of name = option_map (λ (text : Bor (List ℕ)). text.now) name

-- the chosen operation, or why there is none
abbrev pub IsChosen : Option (List ℕ) → List Operation → Result (Bor Operation) (Refused RequestError) → Type 0
IsChosen name operations (Ok operation) = chosen name operations ≡ Some operation.now
IsChosen name operations (Err (Fault fault)) = (chosen name operations ≡ None) × (fault ≡ refusal (why_none name operations))
IsChosen name operations (Err Memory) = chosen name operations ≡ None
