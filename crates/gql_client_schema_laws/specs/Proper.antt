-- What is shown of a schema as a GraphQL schema can have it: its names are names, each reference ends within eight wrappers, each default is
-- printed as constant values are, and a type has the parts of its kind alone.
use Rattle.std.specs.Prelude.{◌≡◌, ℕ, zero, suc, Bool, true, false, List, [], Option, Some, None}
use Rattle.std.specs.List.{AllByRecursion}
use Rattle.gql_ast_base.specs.Names.{Named, is_name}
use Rattle.gql_ast_base.specs.declared.type_ref.TypeRef.{TypeRef, out-TypeRef, List as ListOf}
use Rattle.gql_ast_base.specs.declared.type_ref.TypeRef.TheOpen.{TypeRef-F}
use Rattle.gql_ast_base.specs.declared.type_ref.TypeRef.TheVariants as ref
use Rattle.gql_sdl.specs.declared.shown.ShownDirective.{ShownDirective}
use Rattle.gql_sdl.specs.declared.shown.ShownEnumValue.{ShownEnumValue}
use Rattle.gql_sdl.specs.declared.shown.ShownField.{ShownField}
use Rattle.gql_sdl.specs.declared.shown.ShownInput.{ShownInput}
use Rattle.gql_sdl.specs.declared.shown.ShownSchema.{ShownSchema}
use Rattle.gql_sdl.specs.declared.shown.ShownType.{ShownType}
use Rattle.gql_client_schema_laws.specs.Answer.{has_fields, has_possible_types, is_enum, is_input_object}
use Rattle.gql_client_schema.specs.Constants.{IsConstant}

-- a name, from no place
abbrev pub IsName : Named → Type 0
IsName name = (is_name name.text ≡ true) × (name.location ≡ None)

abbrev pub AreNamed : Option Named → Type 0
AreNamed None = Unit {0}
AreNamed (Some name) = IsName name

abbrev pub ends_level : (TypeRef → Type 0) → TypeRef-F TypeRef → Type 0
ends_level Inside (TypeRef-F.Named name) = IsName name
ends_level Inside (TypeRef-F.NonNullNamed name) = Inside (ref.Named name)
ends_level Inside (TypeRef-F.List item) = Inside item
ends_level Inside (TypeRef-F.NonNullList item) = Inside (ListOf item)

-- it ends in a named type within so many wrappers
unfoldable pub EndsWithin : ℕ → TypeRef → Type 0
EndsWithin zero ty = ends_level (λ inside. ⊥) (out-TypeRef ty)
EndsWithin (suc left) ty = ends_level (EndsWithin left) (out-TypeRef ty)

abbrev pub IsShallow : TypeRef → Type 0
IsShallow ty = EndsWithin 8 ty

-- the text of a constant value, as that is printed
abbrev pub IsPrinted : Option (List ℕ) → Type 0
IsPrinted None = Unit {0}
IsPrinted (Some text) = IsConstant text text

-- none, unless the kind has some
abbrev pub AreOfKind : {X : Type 0} → Bool → List X → Type 0
AreOfKind true xs = Unit {0}
AreOfKind false xs = xs ≡ []

pub record IsProperInput (input : ShownInput) : Type 0 where
  pub name : IsName input.name
  pub ty : IsShallow input.ty
  pub default : IsPrinted input.default_value

pub record IsProperField (field : ShownField) : Type 0 where
  pub name : IsName field.name
  pub arguments : AllByRecursion IsProperInput field.arguments
  pub ty : IsShallow field.ty

abbrev pub IsProperValue : ShownEnumValue → Type 0
IsProperValue value = IsName value.name

pub record IsProperDirective (directive : ShownDirective) : Type 0 where
  pub name : IsName directive.name
  pub arguments : AllByRecursion IsProperInput directive.arguments

abbrev pub IsOneOfKind : Bool → Bool → Type 0
IsOneOfKind true one_of = Unit {0}
IsOneOfKind false one_of = one_of ≡ false

pub record IsProperType (ty : ShownType) : Type 0 where
  pub name : IsName ty.name
  pub one_of : IsOneOfKind (is_input_object ty.kind) ty.is_one_of
  pub fields : AllByRecursion IsProperField ty.fields
  pub input_fields : AllByRecursion IsProperInput ty.input_fields
  pub interfaces : AllByRecursion IsShallow ty.interfaces
  pub possible_types : AllByRecursion IsShallow ty.possible_types
  pub enum_values : AllByRecursion IsProperValue ty.enum_values
  pub fields_of_kind : AreOfKind (has_fields ty.kind) ty.fields
  pub input_fields_of_kind : AreOfKind (is_input_object ty.kind) ty.input_fields
  pub interfaces_of_kind : AreOfKind (has_fields ty.kind) ty.interfaces
  pub possible_types_of_kind : AreOfKind (has_possible_types ty.kind) ty.possible_types
  pub enum_values_of_kind : AreOfKind (is_enum ty.kind) ty.enum_values

pub record IsProper (shown : ShownSchema) : Type 0 where
  pub query : IsName shown.query
  pub mutation : AreNamed shown.mutation
  pub subscription : AreNamed shown.subscription
  pub types : AllByRecursion IsProperType shown.types
  pub directives : AllByRecursion IsProperDirective shown.directives
