-- The built-in scalars as validation leaves them: section 3.5 of GraphQL October 2021. One that nothing names is left out, but `String` and `Boolean` stay.
use Rattle.std.specs.Prelude.{ℕ, Bool, false, ◌&&◌, ◌||◌, not, List, [], ◌∷◌, ◌++◌, None, is_some, if◌then◌else◌, codes}
use Rattle.std.specs.List.{list_any}
use Rattle.std.specs.Str.{bytes_eq}
use Rattle.gql_ast.specs.declared.field_definition.FieldDefinition.{FieldDefinition}
use Rattle.gql_ast.specs.declared.field_definition.InputValueDefinition.{InputValueDefinition}
use Rattle.gql_ast.specs.declared.schema_definition.DirectiveDefinition.{DirectiveDefinition}
use Rattle.gql_ast_base.specs.TypeParts.{named_type}
use Rattle.gql_rules_values.specs.Written.{is_written}
use Rattle.gql_schema_types.specs.Entries.{without}
use Rattle.gql_schema_types.specs.Types.{type_name, type_called}
use Rattle.gql_schema_types.specs.declared.schema.Schema.{Schema}
use Rattle.gql_schema_types.specs.declared.types.ExtendedType.{ExtendedType}
use Rattle.gql_schema_types.specs.declared.types.ExtendedType.TheVariants.{Scalar, Object, Interface, InputObject}

-- ---- what users name
module _ (name : List ℕ) where
  abbrev pub names : InputValueDefinition → Bool
  names value = bytes_eq name (named_type value.ty).text

  abbrev pub field_names : FieldDefinition → Bool
  field_names field = is_written field.location && (bytes_eq name (named_type field.ty).text || list_any names field.arguments)

  abbrev pub input_names : InputValueDefinition → Bool
  input_names value = is_written value.location && names value

  abbrev pub type_names : ExtendedType → Bool
  type_names (Object it) = list_any field_names it.fields
  type_names (Interface it) = list_any field_names it.fields
  type_names (InputObject it) = list_any input_names it.fields
  type_names _ = false

  abbrev pub directive_names : DirectiveDefinition → Bool
  directive_names definition = is_written definition.location && list_any names definition.arguments

-- the type of an argument, an input field or a field that is not built in
abbrev pub is_named : List DirectiveDefinition → List ExtendedType → List ℕ → Bool
is_named definitions types name = list_any (directive_names name) definitions || list_any (type_names name) types

-- ---- what is added and dropped
abbrev pub new_scalar : List ℕ → ExtendedType
new_scalar name = Scalar (record { description = None; name = record { text = name; location = None }; directives = []; location = None })

abbrev pub built_in_scalars : List (List ℕ)
built_in_scalars = codes "Int" ∷ codes "Float" ∷ codes "String" ∷ codes "Boolean" ∷ codes "ID" ∷ []

module _ (definitions : List DirectiveDefinition) where
  abbrev pub is_missing : List ExtendedType → List ℕ → Bool
  is_missing types name = is_named definitions types name && not (is_some (type_called name types))

  -- each of these scalars last that is named and missing
  abbrev pub with_missing : List ExtendedType → List (List ℕ) → List ExtendedType
  with_missing types [] = types
  with_missing types (name ∷ rest) = with_missing (if is_missing types name then types ++ new_scalar name ∷ [] else types) rest

  -- without the scalar, if it is not named
  abbrev pub unless_unused : List ℕ → List ExtendedType → List ExtendedType
  unless_unused name types = if is_named definitions types name then types else without type_name name types

  abbrev pub validated_types : List ExtendedType → List ExtendedType
  validated_types types = unless_unused (codes "ID") (unless_unused (codes "Float") (unless_unused (codes "Int") (with_missing types built_in_scalars)))

-- a schema as validation leaves it
abbrev pub validated : Schema → Schema
validated schema = record schema { types = validated_types schema.directive_definitions schema.types }
