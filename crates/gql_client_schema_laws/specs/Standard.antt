-- What a schema has of what the standard builds in, as far as the uses of directives ask that tell what introspection shows: sections 3.5
-- and 3.13 of GraphQL October 2021, and section 3.10.1 of September 2025.
use Rattle.std.specs.Prelude.{◌≡◌, ℕ, true, List, [], ◌∷◌, map, Some, None, codes}
use Rattle.std.specs.List.{AllByRecursion}
use Rattle.gql_ast_base.specs.Names.{Named}
use Rattle.gql_ast_base.specs.declared.type_ref.TypeRef.{TypeRef}
use Rattle.gql_ast_base.specs.declared.type_ref.TypeRef.TheVariants as ref
use Rattle.gql_ast.specs.declared.field_definition.InputValueDefinition.{InputValueDefinition}
use Rattle.gql_ast.specs.declared.schema_definition.DirectiveDefinition.{DirectiveDefinition}
use Rattle.gql_ast.specs.declared.schema_definition.DirectiveLocation.{DirectiveLocation}
use Rattle.gql_ast.specs.declared.schema_definition.DirectiveLocation.TheVariants as at
use Rattle.gql_ast_laws.specs.Printed.{unplaced}
use Rattle.gql_rules_values.specs.UniqueDirective.{directive_name}
use Rattle.gql_rules_values.specs.UnsupportedLocation.{allows}
use Rattle.gql_schema_types.specs.Entries.{entry}
use Rattle.gql_schema_types.specs.Types.{type_called}
use Rattle.gql_schema_types.specs.declared.schema.Schema.{Schema}
use Rattle.gql_schema_types.specs.declared.types.ExtendedType.{ExtendedType}
use Rattle.gql_schema_types.specs.declared.types.ExtendedType.TheVariants as type
use Rattle.gql_schema_types.specs.declared.types.ScalarType.{ScalarType}

-- a parameter: its name, and its type without places
abbrev pub Parameter : Type 0
Parameter = List ℕ × TypeRef

abbrev pub said_parameter : InputValueDefinition → Parameter
said_parameter argument = (argument.name.text, unplaced argument.ty)

-- the first directive of a name may stand at these places, has these parameters, and no directive is used on any of them
pub record HasDirective (known : List DirectiveDefinition) (name : List ℕ) (places : List DirectiveLocation) (parameters : List Parameter) : Type 0 where
  pub definition : DirectiveDefinition
  pub is : entry directive_name name known ≡ Some definition
  pub stands : AllByRecursion (λ place. allows definition.locations place ≡ true) places
  pub takes : map said_parameter definition.arguments ≡ parameters
  pub plain : AllByRecursion (λ argument. argument.directives ≡ []) definition.arguments

-- the type of a name is a scalar on which no directive is used
pub record HasScalar (types : List ExtendedType) (name : List ℕ) : Type 0 where
  pub scalar : ScalarType
  pub is : type_called name types ≡ Some (type.Scalar scalar)
  pub plain : scalar.directives ≡ []

abbrev pub string_name : Named
string_name = record { text = codes "String"; location = None }

-- `reason: String`
abbrev pub reason_parameter : Parameter
reason_parameter = (codes "reason", ref.Named string_name)

-- `url: String!`
abbrev pub url_parameter : Parameter
url_parameter = (codes "url", ref.NonNullNamed string_name)

abbrev pub deprecation_places : List DirectiveLocation
deprecation_places = at.FieldDefinition ∷ at.ArgumentDefinition ∷ at.InputFieldDefinition ∷ at.EnumValue ∷ []

pub record IsStandard (types : List ExtendedType) (definitions : List DirectiveDefinition) : Type 0 where
  pub string : HasScalar types (codes "String")
  pub deprecated : HasDirective definitions (codes "deprecated") deprecation_places (reason_parameter ∷ [])
  pub specified_by : HasDirective definitions (codes "specifiedBy") (at.Scalar ∷ []) (url_parameter ∷ [])
  pub one_of : HasDirective definitions (codes "oneOf") (at.InputObject ∷ []) []

abbrev pub HasStandard : Schema → Type 0
HasStandard schema = IsStandard schema.types schema.directive_definitions
