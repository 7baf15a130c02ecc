-- A schema that tells another one again: the same types and directives, places aside, with no uses of directives but those that tell what
-- introspection shows. What no rule of section 3 of GraphQL October 2021 asks for, such as descriptions, may differ.
use Rattle.std.specs.Prelude.{◌≡◌, ℕ, List, [], Option}
use Rattle.std.specs.Option.{option_map}
use Rattle.gql_ast_base.specs.Names.{Named}
use Rattle.gql_ast.specs.declared.field_definition.EnumValueDefinition.{EnumValueDefinition}
use Rattle.gql_ast.specs.declared.field_definition.FieldDefinition.{FieldDefinition}
use Rattle.gql_ast.specs.declared.field_definition.InputValueDefinition.{InputValueDefinition}
use Rattle.gql_ast.specs.declared.schema_definition.DirectiveDefinition.{DirectiveDefinition}
use Rattle.gql_ast_laws.specs.Printed.{unplaced}
use Rattle.gql_print_laws.specs.Literal.{literal_in}
use Rattle.gql_rules_values.specs.Written.{is_written}
use Rattle.gql_client_schema_laws.specs.Pairs.{Paired}
use Rattle.gql_client_schema_laws.specs.Uses.{AreUses, deprecation_uses, url_uses, one_of_uses}
use Rattle.gql_schema_types.specs.Types.{is_one_of}
use Rattle.gql_schema_types.specs.declared.schema.Schema.{Schema}
use Rattle.gql_schema_types.specs.declared.types.EnumType.{EnumType}
use Rattle.gql_schema_types.specs.declared.types.ExtendedType.{ExtendedType}
use Rattle.gql_schema_types.specs.declared.types.ExtendedType.TheVariants as type
use Rattle.gql_schema_types.specs.declared.types.InputObjectType.{InputObjectType}
use Rattle.gql_schema_types.specs.declared.types.InterfaceType.{InterfaceType}
use Rattle.gql_schema_types.specs.declared.types.ObjectType.{ObjectType}
use Rattle.gql_schema_types.specs.declared.types.ScalarType.{ScalarType}
use Rattle.gql_schema_types.specs.declared.types.UnionType.{UnionType}

-- the name of a definition, or an interface or a member that is listed
pub record IsRetoldName (name again : Named) : Type 0 where
  pub text : name.text ≡ again.text
  pub place : is_written name.location ≡ is_written again.location

-- an argument
pub record IsRetoldInput (input again : InputValueDefinition) : Type 0 where
  pub name : input.name.text ≡ again.name.text
  pub ty : unplaced input.ty ≡ unplaced again.ty
  pub default_value : option_map literal_in input.default_value ≡ option_map literal_in again.default_value
  pub deprecation : Option (Option (List ℕ))
  pub uses : AreUses (deprecation_uses deprecation) again.directives

-- a field of an input object type
pub record IsRetoldInputField (field again : InputValueDefinition) : Type 0 where
  pub input : IsRetoldInput field again
  pub place : is_written field.location ≡ is_written again.location

pub record IsRetoldField (field again : FieldDefinition) : Type 0 where
  pub name : field.name.text ≡ again.name.text
  pub arguments : Paired IsRetoldInput field.arguments again.arguments
  pub ty : unplaced field.ty ≡ unplaced again.ty
  pub deprecation : Option (Option (List ℕ))
  pub uses : AreUses (deprecation_uses deprecation) again.directives
  pub place : is_written field.location ≡ is_written again.location

pub record IsRetoldValue (value again : EnumValueDefinition) : Type 0 where
  pub name : value.value.text ≡ again.value.text
  pub deprecation : Option (Option (List ℕ))
  pub uses : AreUses (deprecation_uses deprecation) again.directives
  pub place : is_written value.location ≡ is_written again.location

pub record IsRetoldScalar (it again : ScalarType) : Type 0 where
  pub name : IsRetoldName it.name again.name
  pub url : Option (List ℕ)
  pub uses : AreUses (url_uses url) again.directives
  pub place : is_written it.location ≡ is_written again.location

pub record IsRetoldObject (it again : ObjectType) : Type 0 where
  pub name : IsRetoldName it.name again.name
  pub interfaces : Paired IsRetoldName it.implements_interfaces again.implements_interfaces
  pub fields : Paired IsRetoldField it.fields again.fields
  pub uses : AreUses [] again.directives
  pub place : is_written it.location ≡ is_written again.location

pub record IsRetoldInterface (it again : InterfaceType) : Type 0 where
  pub name : IsRetoldName it.name again.name
  pub interfaces : Paired IsRetoldName it.implements_interfaces again.implements_interfaces
  pub fields : Paired IsRetoldField it.fields again.fields
  pub uses : AreUses [] again.directives
  pub place : is_written it.location ≡ is_written again.location

pub record IsRetoldUnion (it again : UnionType) : Type 0 where
  pub name : IsRetoldName it.name again.name
  pub members : Paired IsRetoldName it.members again.members
  pub uses : AreUses [] again.directives
  pub place : is_written it.location ≡ is_written again.location

pub record IsRetoldEnum (it again : EnumType) : Type 0 where
  pub name : IsRetoldName it.name again.name
  pub values : Paired IsRetoldValue it.values again.values
  pub uses : AreUses [] again.directives
  pub place : is_written it.location ≡ is_written again.location

pub record IsRetoldInputObject (it again : InputObjectType) : Type 0 where
  pub name : IsRetoldName it.name again.name
  pub fields : Paired IsRetoldInputField it.fields again.fields
  pub one_of : is_one_of it ≡ is_one_of again
  pub uses : AreUses (one_of_uses (is_one_of again)) again.directives
  pub place : is_written it.location ≡ is_written again.location

-- a type of the same kind
abbrev pub IsRetoldType : ExtendedType → ExtendedType → Type 0
IsRetoldType (type.Scalar it) (type.Scalar again) = IsRetoldScalar it again
IsRetoldType (type.Object it) (type.Object again) = IsRetoldObject it again
IsRetoldType (type.Interface it) (type.Interface again) = IsRetoldInterface it again
IsRetoldType (type.Union it) (type.Union again) = IsRetoldUnion it again
IsRetoldType (type.Enum it) (type.Enum again) = IsRetoldEnum it again
IsRetoldType (type.InputObject it) (type.InputObject again) = IsRetoldInputObject it again
IsRetoldType _ _ = ⊥

pub record IsRetoldDirective (directive again : DirectiveDefinition) : Type 0 where
  pub name : IsRetoldName directive.name again.name
  pub arguments : Paired IsRetoldInput directive.arguments again.arguments
  pub place : is_written directive.location ≡ is_written again.location

-- the types and directives, in order; the roots are not asked for
pub record IsRetold (schema again : Schema) : Type 0 where
  pub types : Paired IsRetoldType schema.types again.types
  pub directives : Paired IsRetoldDirective schema.directive_definitions again.directive_definitions
  pub uses : AreUses [] again.schema_definition.directives
