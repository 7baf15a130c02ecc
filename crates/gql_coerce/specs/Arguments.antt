-- The arguments of a field: section 6.4.1 of GraphQL October 2021.
use Rattle.std.specs.Prelude.{ℕ, List, [], ◌∷◌, Option, Some, None, Ok, Err, ◌&&◌, if◌then◌else◌}
use Rattle.std.specs.Str.{bytes_eq}
use Rattle.std.specs.Map.{lookup}
use Rattle.jb_tree.specs.declared.value.Value.{Value as JsonValue, Null}
use Rattle.jb_tree.specs.Value.{is_null}
use Rattle.gql_ast_base.specs.declared.directive.Argument.{Argument}
use Rattle.gql_ast_base.specs.declared.value.Value.{Value}
use Rattle.gql_ast_base.specs.declared.value.ValueKind.{ValueKind, out-ValueKind}
use Rattle.gql_ast_base.specs.declared.value.ValueKind.TheOpen.{ValueKind-F}
use Rattle.gql_ast.specs.declared.field_definition.InputValueDefinition.{InputValueDefinition}
use Rattle.gql_schema_types.specs.declared.types.ExtendedType.{ExtendedType}
use Rattle.gql_coerce.specs.Outcome.{Outcome, mapped}
use Rattle.gql_coerce.specs.Faults.{fault_at}
use Rattle.gql_coerce.specs.Subject.{argument_words}
use Rattle.gql_coerce.specs.Messages.{null_argument, missing_argument}
use Rattle.gql_ast_base.specs.TypeParts.{is_non_null}
use Rattle.gql_coerce.specs.Filled.{Members, filled, not_given}
use Rattle.gql_coerce.specs.InputTypes.{field_name}
use Rattle.gql_coerce.specs.LiteralValue.{coerced_literal}

-- of several arguments of one name the first counts
abbrev pub first_named : List ℕ → List Argument → Option Argument
first_named name [] = None
first_named name (argument ∷ arguments) = if bytes_eq name argument.name.text then Some argument else first_named name arguments

-- a value that is given as it is
abbrev pub whole_value : InputValueDefinition → JsonValue → Outcome (Option JsonValue)
whole_value definition value =
    if is_non_null definition.ty && is_null value then Err (fault_at definition.location (null_argument (field_name definition))) else Ok (Some value)

abbrev pub no_argument : InputValueDefinition → Outcome (Option JsonValue)
no_argument definition =
    not_given (argument_words (field_name definition)) definition.ty definition.default_value
    (fault_at definition.location (missing_argument (field_name definition)))

-- a variable that has a value gives it, and one that has none is no argument
abbrev pub whole_variable : InputValueDefinition → Option JsonValue → Outcome (Option JsonValue)
whole_variable definition (Some value) = whole_value definition value
whole_variable definition None = no_argument definition

module _ (types : List ExtendedType) (env : Members) where
  abbrev pub literal_argument : InputValueDefinition → Value → Outcome (Option JsonValue)
  literal_argument definition literal = mapped Some (coerced_literal types env literal (argument_words (field_name definition)) definition.ty)

  abbrev pub by_kind : InputValueDefinition → ValueKind-F ValueKind Value → Value → Outcome (Option JsonValue)
  by_kind definition (ValueKind-F.Variable name) literal = whole_variable definition (lookup (bytes_eq name.text) env)
  by_kind definition ValueKind-F.Null literal = whole_value definition Null
  by_kind definition (ValueKind-F.Int text) literal = literal_argument definition literal
  by_kind definition (ValueKind-F.Float text) literal = literal_argument definition literal
  by_kind definition (ValueKind-F.String text) literal = literal_argument definition literal
  by_kind definition (ValueKind-F.Boolean truth) literal = literal_argument definition literal
  by_kind definition (ValueKind-F.Enum name) literal = literal_argument definition literal
  by_kind definition (ValueKind-F.List items) literal = literal_argument definition literal
  by_kind definition (ValueKind-F.Object members) literal = literal_argument definition literal

  abbrev pub argument_given : InputValueDefinition → Option Argument → Outcome (Option JsonValue)
  argument_given definition None = no_argument definition
  argument_given definition (Some argument) = by_kind definition (out-ValueKind argument.value.kind) argument.value

  abbrev pub argument_value : List Argument → InputValueDefinition → Outcome (Option JsonValue)
  argument_value arguments definition = argument_given definition (first_named (field_name definition) arguments)

  abbrev pub coerced_arguments : List InputValueDefinition → List Argument → Outcome Members
  coerced_arguments definitions arguments = filled (argument_value arguments) field_name [] definitions
