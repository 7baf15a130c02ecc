-- A schema that has the types of introspection as the standard defines them: section 4.2 of GraphQL October 2021, with `isOneOf` of September 2025.
use Rattle.std.specs.Prelude.{◌≡◌, ℕ, Bool, true, false, List, [], ◌∷◌, Some, codes}
use Rattle.std.specs.List.{AllByRecursion}
use Rattle.gql_ast_base.specs.Names.{Named}
use Rattle.gql_ast_base.specs.declared.type_ref.TypeRef.{TypeRef, List as ListOf, NonNullList}
use Rattle.gql_ast_base.specs.declared.type_ref.TypeRef.TheVariants as ref
use Rattle.gql_ast.specs.declared.field_definition.EnumValueDefinition.{EnumValueDefinition}
use Rattle.gql_ast.specs.declared.field_definition.FieldDefinition.{FieldDefinition}
use Rattle.gql_ast.specs.declared.field_definition.InputValueDefinition.{InputValueDefinition}
use Rattle.gql_ast.specs.declared.schema_definition.DirectiveLocation.{DirectiveLocation}
use Rattle.gql_ast.specs.Schemas.{location_name}
use Rattle.gql_coerce.specs.InputTypes.{is_enum_value}
use Rattle.gql_schema_types.specs.Schemas.{field_of}
use Rattle.gql_schema_types.specs.Types.{type_called}
use Rattle.gql_schema_types.specs.declared.schema.Schema.{Schema}
use Rattle.gql_schema_types.specs.declared.types.EnumType.{EnumType}
use Rattle.gql_schema_types.specs.declared.types.ExtendedType.TheVariants as type
use Rattle.gql_schema_types.specs.declared.types.ObjectType.{ObjectType}
use Rattle.gql_schema_types.specs.declared.types.ScalarType.{ScalarType}

-- ---- how the type of a field refers to a type

pub data Form : Type 0 where
  plain : Form
  required : Form
  list : Form
  required_list : Form

-- T, T!, [T!] and [T!]!
abbrev pub formed : Form → Named → TypeRef
formed plain name = ref.Named name
formed required name = ref.NonNullNamed name
formed list name = ListOf (ref.NonNullNamed name)
formed required_list name = NonNullList (ref.NonNullNamed name)

pub record RefersAs (form : Form) (target : List ℕ) (ty : TypeRef) : Type 0 where
  pub name : Named
  pub is : ty ≡ formed form name
  pub named : name.text ≡ target

-- ---- fields

-- `includeDeprecated`, a truth value
pub record TakesDeprecated (arguments : List InputValueDefinition) : Type 0 where
  pub argument : InputValueDefinition
  pub only : arguments ≡ argument ∷ []
  pub named : argument.name.text ≡ codes "includeDeprecated"
  pub ty : RefersAs plain (codes "Boolean") argument.ty

abbrev pub Takes : Bool → List InputValueDefinition → Type 0
Takes false arguments = arguments ≡ []
Takes true arguments = TakesDeprecated arguments

-- a field by its name, the form of its type and the name in that, and whether it can be asked for with its deprecated parts
pub record FieldRow : Type 0 where
  pub name : List ℕ
  pub form : Form
  pub target : List ℕ
  pub deprecated : Bool

abbrev pub row : List ℕ → Form → List ℕ → FieldRow
row name form target = record { name = name; form = form; target = target; deprecated = false }

abbrev pub row_with : List ℕ → Form → List ℕ → FieldRow
row_with name form target = record { name = name; form = form; target = target; deprecated = true }

abbrev pub text_named : List ℕ → FieldRow
text_named name = row name plain (codes "String")

abbrev pub schema_rows : List FieldRow
schema_rows =
    text_named (codes "description") ∷ row (codes "queryType") required (codes "__Type") ∷ row (codes "mutationType") plain (codes "__Type")
    ∷ row (codes "subscriptionType") plain (codes "__Type") ∷ row (codes "types") required_list (codes "__Type")
    ∷ row (codes "directives") required_list (codes "__Directive") ∷ []

abbrev pub type_rows : List FieldRow
type_rows =
    row (codes "kind") required (codes "__TypeKind") ∷ text_named (codes "name") ∷ text_named (codes "description") ∷ text_named (codes "specifiedByURL")
    ∷ row (codes "isOneOf") plain (codes "Boolean") ∷ row_with (codes "fields") list (codes "__Field")
    ∷ row_with (codes "inputFields") list (codes "__InputValue") ∷ row (codes "interfaces") list (codes "__Type")
    ∷ row (codes "possibleTypes") list (codes "__Type") ∷ row_with (codes "enumValues") list (codes "__EnumValue")
    ∷ row (codes "ofType") plain (codes "__Type") ∷ []

abbrev pub field_rows : List FieldRow
field_rows =
    row (codes "name") required (codes "String") ∷ text_named (codes "description") ∷ row_with (codes "args") required_list (codes "__InputValue")
    ∷ row (codes "type") required (codes "__Type") ∷ row (codes "isDeprecated") required (codes "Boolean") ∷ text_named (codes "deprecationReason") ∷ []

abbrev pub input_rows : List FieldRow
input_rows =
    row (codes "name") required (codes "String") ∷ text_named (codes "description") ∷ row (codes "type") required (codes "__Type")
    ∷ text_named (codes "defaultValue") ∷ row (codes "isDeprecated") required (codes "Boolean") ∷ text_named (codes "deprecationReason") ∷ []

abbrev pub value_rows : List FieldRow
value_rows =
    row (codes "name") required (codes "String") ∷ text_named (codes "description") ∷ row (codes "isDeprecated") required (codes "Boolean")
    ∷ text_named (codes "deprecationReason") ∷ []

abbrev pub directive_rows : List FieldRow
directive_rows =
    row (codes "name") required (codes "String") ∷ text_named (codes "description") ∷ row (codes "isRepeatable") required (codes "Boolean")
    ∷ row (codes "locations") required_list (codes "__DirectiveLocation") ∷ row_with (codes "args") required_list (codes "__InputValue") ∷ []

-- the kinds of types: section 4.2.2
abbrev pub kind_names : List (List ℕ)
kind_names =
    codes "SCALAR" ∷ codes "OBJECT" ∷ codes "INTERFACE" ∷ codes "UNION" ∷ codes "ENUM" ∷ codes "INPUT_OBJECT" ∷ codes "LIST"
    ∷ codes "NON_NULL" ∷ []

-- ---- types

module _ (schema : Schema) where
  -- the definition of a field of a type
  pub record HasField (ty : List ℕ) (it : FieldRow) : Type 0 where
    pub definition : FieldDefinition
    pub found : field_of schema ty it.name ≡ Some definition
    pub refers : RefersAs it.form it.target definition.ty
    pub takes : Takes it.deprecated definition.arguments

  -- an object type with these fields
  pub record HasObject (name : List ℕ) (rows : List FieldRow) : Type 0 where
    pub object : ObjectType
    pub called : type_called name schema.types ≡ Some (type.Object object)
    pub named : object.name.text ≡ name
    pub fields : AllByRecursion (HasField name) rows

  pub record HasScalar (name : List ℕ) : Type 0 where
    pub scalar : ScalarType
    pub called : type_called name schema.types ≡ Some (type.Scalar scalar)

  -- an enum type that has these values among its own
  pub record HasEnum (name : List ℕ) (Takes : List EnumValueDefinition → Type 0) : Type 0 where
    pub enum : EnumType
    pub called : type_called name schema.types ≡ Some (type.Enum enum)
    pub takes : Takes enum.values

  pub record HasIntrospection : Type 0 where
    pub schema_type : HasObject (codes "__Schema") schema_rows
    pub type_type : HasObject (codes "__Type") type_rows
    pub field_type : HasObject (codes "__Field") field_rows
    pub input_type : HasObject (codes "__InputValue") input_rows
    pub value_type : HasObject (codes "__EnumValue") value_rows
    pub directive_type : HasObject (codes "__Directive") directive_rows
    pub kinds : HasEnum (codes "__TypeKind") (λ values. AllByRecursion (λ name. is_enum_value values name ≡ true) kind_names)
    pub locations : HasEnum (codes "__DirectiveLocation") (λ values. (it : DirectiveLocation) → is_enum_value values (location_name it) ≡ true)
    pub texts : HasScalar (codes "String")
    pub truths : HasScalar (codes "Boolean")
