-- What inputs are, and why they are none: sections 3.10, 6.1.2 and 6.4.1 of GraphQL October 2021.
use Rattle.std.specs.Prelude.{◌≡◌, ◌⊎◌, ℕ, List, Ok, Err}
use Rattle.jb_tree.specs.declared.value.Value.{Value}
use Rattle.gql_ast_base.specs.declared.directive.Argument.{Argument}
use Rattle.gql_ast_base.specs.declared.type_ref.TypeRef.{TypeRef}
use Rattle.gql_ast_base.specs.declared.value.Value.{Value as Literal}
use Rattle.gql_ast.specs.declared.field_definition.InputValueDefinition.{InputValueDefinition}
use Rattle.gql_ast.specs.declared.operation.VariableDefinition.{VariableDefinition}
use Rattle.gql_schema_types.specs.declared.types.ExtendedType.{ExtendedType}
use Rattle.gql_coerce.specs.declared.fault.CoercionFault.{CoercionFault}
use Rattle.gql_coerce.specs.Filled.{Members}
use Rattle.gql_coerce.specs.InputValue.{coerced}
use Rattle.gql_coerce.specs.LiteralValue.{coerced_literal}
use Rattle.gql_coerce.specs.Variables.{coerced_variables}
use Rattle.gql_coerce.specs.Arguments.{coerced_arguments}

module _ (types : List ExtendedType) where
  -- a value of the type is this input, where messages name it so
  abbrev pub InputOf : List ℕ → TypeRef → Value → Value → Type 0
  InputOf d ty value made = coerced types value d ty ≡ Ok made

  -- it is none: its first part that does not coerce, with what is told of it
  abbrev pub NoInput : List ℕ → TypeRef → Value → CoercionFault → Type 0
  NoInput d ty value fault = coerced types value d ty ≡ Err fault

  -- the variables of an operation have these values, in order of definition
  abbrev pub Coerced : List VariableDefinition → Members → Members → Type 0
  Coerced definitions values env = coerced_variables types definitions values ≡ Ok env

  -- they have none: the first definition that refuses
  abbrev pub NotCoerced : List VariableDefinition → Members → CoercionFault → Type 0
  NotCoerced definitions values fault = coerced_variables types definitions values ≡ Err fault

  module _ (env : Members) where
    -- a literal at the type is this input, where the variables have these values
    abbrev pub LiteralOf : List ℕ → TypeRef → Literal → Value → Type 0
    LiteralOf d ty literal made = coerced_literal types env literal d ty ≡ Ok made

    abbrev pub NoLiteral : List ℕ → TypeRef → Literal → CoercionFault → Type 0
    NoLiteral d ty literal fault = coerced_literal types env literal d ty ≡ Err fault

    -- the arguments of a field are these, in order of definition
    abbrev pub ArgumentsOf : List InputValueDefinition → List Argument → Members → Type 0
    ArgumentsOf definitions arguments made = coerced_arguments types env definitions arguments ≡ Ok made

    -- there are none: the first argument that fails
    abbrev pub NoArguments : List InputValueDefinition → List Argument → CoercionFault → Type 0
    NoArguments definitions arguments fault = coerced_arguments types env definitions arguments ≡ Err fault

-- exactly one thing that it gives and no fault, or exactly one fault and nothing that it gives
abbrev pub HasOne : {A : Type 0} → (A → Type 0) → (CoercionFault → Type 0) → Type 0
HasOne {A} gives fails =
    ((found : A) × gives found × ((other : A) → gives other → other ≡ found) × ((fault : CoercionFault) → fails fault → ⊥))
    ⊎ ((fault : CoercionFault) × fails fault × ((other : CoercionFault) → fails other → other ≡ fault) × ((found : A) → gives found → ⊥))
