-- Schemas as texts give them: what is built in stands in the file of built-in definitions, and all else, part by part, in others.
use Rattle.std.specs.Prelude.{◌≡◌, Bool, not, List, None}
use Rattle.std.specs.List.{AllByRecursion}
use Rattle.gql_ast_base.specs.Names.{Named}
use Rattle.gql_ast.specs.declared.field_definition.EnumValueDefinition.{EnumValueDefinition}
use Rattle.gql_ast.specs.declared.schema_definition.DirectiveDefinition.{DirectiveDefinition}
use Rattle.gql_client_schema_laws.specs.Parts.{said_type}
use Rattle.gql_client_schema_laws.specs.Settled.{FieldsAre, InputsAre}
use Rattle.gql_rules_values.specs.Written.{is_written}
use Rattle.gql_schema_types.specs.declared.schema.Schema.{Schema}
use Rattle.gql_schema_types.specs.declared.types.EnumType.{EnumType}
use Rattle.gql_schema_types.specs.declared.types.ExtendedType.{ExtendedType}
use Rattle.gql_schema_types.specs.declared.types.ExtendedType.TheVariants as type
use Rattle.gql_schema_types.specs.declared.types.InputObjectType.{InputObjectType}
use Rattle.gql_schema_types.specs.declared.types.InterfaceType.{InterfaceType}
use Rattle.gql_schema_types.specs.declared.types.ObjectType.{ObjectType}
use Rattle.gql_schema_types.specs.declared.types.ScalarType.{ScalarType}
use Rattle.gql_schema_types.specs.declared.types.UnionType.{UnionType}
use Rattle.gql_sdl.specs.Schemas.{is_directive_name, is_built_in}

module _ (written : Bool) where
  abbrev pub NameIs : Named → Type 0
  NameIs name = is_written name.location ≡ written

  abbrev pub NamesAre : List Named → Type 0
  NamesAre names = AllByRecursion NameIs names

  abbrev pub ValuesAre : List EnumValueDefinition → Type 0
  ValuesAre values = AllByRecursion (λ value. is_written value.location ≡ written) values

  pub record ScalarIs (it : ScalarType) : Type 0 where
    pub name : NameIs it.name
    pub itself : is_written it.location ≡ written

  pub record ObjectIs (it : ObjectType) : Type 0 where
    pub name : NameIs it.name
    pub itself : is_written it.location ≡ written
    pub interfaces : NamesAre it.implements_interfaces
    pub fields : FieldsAre written it.fields

  pub record InterfaceIs (it : InterfaceType) : Type 0 where
    pub name : NameIs it.name
    pub itself : is_written it.location ≡ written
    pub interfaces : NamesAre it.implements_interfaces
    pub fields : FieldsAre written it.fields

  pub record UnionIs (it : UnionType) : Type 0 where
    pub name : NameIs it.name
    pub itself : is_written it.location ≡ written
    pub members : NamesAre it.members

  pub record EnumIs (it : EnumType) : Type 0 where
    pub name : NameIs it.name
    pub itself : is_written it.location ≡ written
    pub values : ValuesAre it.values

  pub record InputObjectIs (it : InputObjectType) : Type 0 where
    pub name : NameIs it.name
    pub itself : is_written it.location ≡ written
    pub fields : InputsAre written it.fields

  abbrev pub TypeIs : ExtendedType → Type 0
  TypeIs (type.Scalar it) = ScalarIs it
  TypeIs (type.Object it) = ObjectIs it
  TypeIs (type.Interface it) = InterfaceIs it
  TypeIs (type.Union it) = UnionIs it
  TypeIs (type.Enum it) = EnumIs it
  TypeIs (type.InputObject it) = InputObjectIs it

  pub record DirectiveIs (directive : DirectiveDefinition) : Type 0 where
    pub name : NameIs directive.name
    pub itself : is_written directive.location ≡ written

-- a type with its parts, and a directive
abbrev pub IsTypeThroughout : ExtendedType → Type 0
IsTypeThroughout ty = TypeIs (not (is_built_in (said_type None ty))) ty

abbrev pub IsDirectiveThroughout : DirectiveDefinition → Type 0
IsDirectiveThroughout directive = DirectiveIs (not (is_directive_name directive.name.text)) directive

pub record IsPlacedThroughout (schema : Schema) : Type 0 where
  pub types : AllByRecursion IsTypeThroughout schema.types
  pub directives : AllByRecursion IsDirectiveThroughout schema.directive_definitions
