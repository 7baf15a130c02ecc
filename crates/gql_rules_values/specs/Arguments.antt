-- The rules on the arguments of a field or of a directive: section 5.4 of GraphQL October 2021.
use Rattle.std.specs.Prelude.{ℕ, Bool, List, ◌++◌, Option, None}
use Rattle.std.specs.List.{flat_map}
use Rattle.std.specs.Option.{option_map}
use Rattle.gql_source.specs.Span.{Span}
use Rattle.gql_ast.specs.declared.field_definition.InputValueDefinition.{InputValueDefinition}
use Rattle.gql_ast_base.specs.declared.type_ref.TypeRef.{TypeRef}
use Rattle.gql_ast_base.specs.declared.directive.Argument.{Argument}
use Rattle.gql_diag_messages.specs.declared.diagnostic_data.DiagnosticData.{DiagnosticData}
use Rattle.gql_rules_values.specs.declared.known.Defined.{Defined}
use Rattle.gql_rules_values.specs.Literals.{literal_faults}
use Rattle.gql_rules_values.specs.RequiredArgument.{required_arguments}
use Rattle.gql_rules_values.specs.UndefinedArgument.{defined, undefined_argument}
use Rattle.gql_rules_values.specs.UniqueArgument.{unique_argument}
use Rattle.gql_schema_types.specs.declared.types.ExtendedType.{ExtendedType}

-- the type that is wanted of an argument, if it is defined
abbrev pub argument_type : List InputValueDefinition → Argument → Option TypeRef
argument_type definitions argument = option_map (λ definition. definition.ty) (defined definitions argument.name.text)

module _ (counted : Defined) (types : List ExtendedType) where
  abbrev pub one_argument : List ℕ → List InputValueDefinition → Argument → List DiagnosticData
  one_argument name definitions argument =
      undefined_argument name definitions argument ++ literal_faults counted types (argument_type definitions argument) argument.value

  -- what is wrong with the arguments of a field or directive of this name at this place
  abbrev pub argument_faults : Bool → List ℕ → Option Span → List InputValueDefinition → List Argument → List DiagnosticData
  argument_faults directive name place definitions arguments =
      unique_argument arguments ++ (flat_map (one_argument name definitions) arguments ++ required_arguments directive name place arguments definitions)

  -- what is wrong with arguments of which none is known
  abbrev pub unknown_argument : Argument → List DiagnosticData
  unknown_argument argument = literal_faults counted types None argument.value

  abbrev pub unknown_argument_faults : List Argument → List DiagnosticData
  unknown_argument_faults arguments = unique_argument arguments ++ flat_map unknown_argument arguments
