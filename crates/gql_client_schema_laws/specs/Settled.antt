-- What is shown of a schema as validation leaves it: without the scalars `Int`, `Float` and `ID` that nothing names which is not built in.
use Rattle.std.specs.Prelude.{◌≡◌, ℕ, Bool, true, not, ◌&&◌, ◌||◌, List, map, is_some, None, if◌then◌else◌, codes}
use Rattle.std.specs.List.{AllByRecursion, filter, list_any}
use Rattle.std.specs.Str.{bytes_eq}
use Rattle.gql_ast_base.specs.TypeParts.{named_type}
use Rattle.gql_ast.specs.declared.field_definition.FieldDefinition.{FieldDefinition}
use Rattle.gql_ast.specs.declared.field_definition.InputValueDefinition.{InputValueDefinition}
use Rattle.gql_ast.specs.declared.schema_definition.DirectiveDefinition.{DirectiveDefinition}
use Rattle.gql_client_schema_laws.specs.Parts.{said_type}
use Rattle.gql_client_schema_laws.specs.Shown.{unfinished, all_finished}
use Rattle.gql_rules_values.specs.Written.{is_written}
use Rattle.gql_schema_rules.specs.Scalars.{built_in_scalars}
use Rattle.gql_schema_types.specs.Types.{type_called}
use Rattle.gql_schema_types.specs.declared.schema.Schema.{Schema}
use Rattle.gql_schema_types.specs.declared.types.ExtendedType.{ExtendedType}
use Rattle.gql_schema_types.specs.declared.types.ExtendedType.TheVariants as type
use Rattle.gql_sdl.specs.Schemas.{is_directive_name, is_built_in}
use Rattle.gql_sdl.specs.declared.shown.ShownDirective.{ShownDirective}
use Rattle.gql_sdl.specs.declared.shown.ShownField.{ShownField}
use Rattle.gql_sdl.specs.declared.shown.ShownInput.{ShownInput}
use Rattle.gql_sdl.specs.declared.shown.ShownSchema.{ShownSchema}
use Rattle.gql_sdl.specs.declared.shown.ShownType.{ShownType}

module _ (name : List ℕ) where
  abbrev pub input_names : ShownInput → Bool
  input_names input = bytes_eq name (named_type input.ty).text

  abbrev pub field_names : ShownField → Bool
  field_names field = bytes_eq name (named_type field.ty).text || list_any input_names field.arguments

  abbrev pub type_names : ShownType → Bool
  type_names ty = not (is_built_in ty) && (list_any field_names ty.fields || list_any input_names ty.input_fields)

  abbrev pub directive_names : ShownDirective → Bool
  directive_names directive = not (is_directive_name directive.name.text) && list_any input_names directive.arguments

  abbrev pub others : List ShownType → List ShownType
  others types = filter (λ (ty : ShownType). not (bytes_eq name ty.name.text)) types

-- without the type, if nothing names it
abbrev pub left : List ShownDirective → List ℕ → List ShownType → List ShownType
left directives name types = if list_any (directive_names name) directives || list_any (type_names name) types then types else others name types

abbrev pub all_left : List ShownDirective → List ShownType → List ShownType
all_left directives types = left directives (codes "ID") (left directives (codes "Float") (left directives (codes "Int") types))

-- an interface can be what is left
abbrev pub settled : ShownSchema → ShownSchema
settled shown = record shown { types = all_finished (all_left shown.directives (map unfinished shown.types)) }

-- ---- what is built in stands in the file of built-in definitions, and all else in others

abbrev pub FieldsAre : Bool → List FieldDefinition → Type 0
FieldsAre written fields = AllByRecursion (λ field. is_written field.location ≡ written) fields

abbrev pub InputsAre : Bool → List InputValueDefinition → Type 0
InputsAre written inputs = AllByRecursion (λ input. is_written input.location ≡ written) inputs

abbrev pub PartsAre : Bool → ExtendedType → Type 0
PartsAre written (type.Object it) = FieldsAre written it.fields
PartsAre written (type.Interface it) = FieldsAre written it.fields
PartsAre written (type.InputObject it) = InputsAre written it.fields
PartsAre written _ = Unit {0}

abbrev pub IsInPlace : ExtendedType → Type 0
IsInPlace ty = PartsAre (not (is_built_in (said_type None ty))) ty

abbrev pub IsDirectiveInPlace : DirectiveDefinition → Type 0
IsDirectiveInPlace directive = is_written directive.location ≡ not (is_directive_name directive.name.text)

pub record IsPlaced (schema : Schema) : Type 0 where
  pub types : AllByRecursion IsInPlace schema.types
  pub directives : AllByRecursion IsDirectiveInPlace schema.directive_definitions
  -- and none of the built-in scalars is missing
  pub scalars : AllByRecursion (λ name. is_some (type_called name schema.types) ≡ true) built_in_scalars
