-- An argument that has to be given is given: section 5.4.2.1 of GraphQL October 2021.
use Rattle.std.specs.Prelude.{ℕ, Bool, ◌&&◌, not, List, [], ◌∷◌, ◌++◌, Option, None, if◌then◌else◌, codes}
use Rattle.std.specs.List.{list_any}
use Rattle.std.specs.Str.{bytes_eq}
use Rattle.gql_source.specs.Span.{Span}
use Rattle.gql_ast.specs.declared.field_definition.InputValueDefinition.{InputValueDefinition}
use Rattle.gql_ast.specs.TypeText.{type_text}
use Rattle.gql_ast_base.specs.declared.directive.Argument.{Argument}
use Rattle.gql_diag_messages.specs.declared.rule.Rule.TheVariants.{RequiredArgument}
use Rattle.gql_diag_messages.specs.declared.diagnostic_data.DiagnosticData.{DiagnosticData}
use Rattle.gql_rules_values.specs.Faults.{fault, only_if}
use Rattle.gql_rules_values.specs.TypeShape.{is_required}

-- the name of a directive stands with its `@` before it
abbrev pub told_name : Bool → List ℕ → List ℕ
told_name directive name = if directive then codes "@" ++ name else name

abbrev pub is_called : List ℕ → InputValueDefinition → Bool
is_called name definition = bytes_eq name definition.name.text

module _ (directive : Bool) (name : List ℕ) (place : Option Span) (arguments : List Argument) where
  abbrev pub lacking : InputValueDefinition → DiagnosticData
  lacking definition = fault RequiredArgument (told_name directive name ∷ definition.name.text ∷ type_text definition.ty ∷ []) place None

  abbrev pub is_given : InputValueDefinition → Bool
  is_given definition = list_any (λ (argument : Argument). bytes_eq definition.name.text argument.name.text) arguments

  -- an argument that has to be given and is not, told at the field or the use of a directive; of several definitions of a name the first counts
  abbrev pub required_argument : List InputValueDefinition → InputValueDefinition → List DiagnosticData
  required_argument earlier definition =
      only_if ((is_required definition && not (is_given definition)) && not (list_any (is_called definition.name.text) earlier)) (lacking definition)

  abbrev pub required_after : List InputValueDefinition → List InputValueDefinition → List DiagnosticData
  required_after earlier [] = []
  required_after earlier (definition ∷ rest) = required_argument earlier definition ++ required_after (earlier ++ definition ∷ []) rest

  abbrev pub required_arguments : List InputValueDefinition → List DiagnosticData
  required_arguments definitions = required_after [] definitions
