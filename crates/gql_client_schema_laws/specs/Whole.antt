-- A schema whose types have distinct names, and all of whose references name types that it has: sections 3.3 and 3.6 to 3.13 of GraphQL October 2021.
use Rattle.std.specs.Prelude.{◌≡◌, true, List, [], Option, Some, None, is_some, codes}
use Rattle.std.specs.List.{AllByRecursion}
use Rattle.gql_ast_base.specs.Names.{Named}
use Rattle.gql_ast_base.specs.TypeParts.{named_type}
use Rattle.gql_ast.specs.declared.field_definition.FieldDefinition.{FieldDefinition}
use Rattle.gql_ast.specs.declared.field_definition.InputValueDefinition.{InputValueDefinition}
use Rattle.gql_ast.specs.declared.schema_definition.DirectiveDefinition.{DirectiveDefinition}
use Rattle.gql_client_schema_laws.specs.Given.{inputs_of}
use Rattle.gql_schema_types.specs.MetaFields.{schema_field}
use Rattle.gql_schema_types.specs.Schemas.{field_of}
use Rattle.gql_schema_types.specs.Types.{type_called, type_name, fields_of, interfaces_of}
use Rattle.gql_schema_types.specs.declared.schema.Schema.{Schema}
use Rattle.gql_schema_types.specs.declared.types.ExtendedType.{ExtendedType}
use Rattle.gql_schema_types.specs.declared.types.ExtendedType.TheVariants as type

abbrev pub members_of : ExtendedType → List Named
members_of (type.Union it) = it.members
members_of _ = []

module _ (types : List ExtendedType) where
  abbrev pub IsNameKnown : Named → Type 0
  IsNameKnown name = is_some (type_called name.text types) ≡ true

  abbrev pub AreNamesKnown : List Named → Type 0
  AreNamesKnown names = AllByRecursion IsNameKnown names

  abbrev pub IsInputKnown : InputValueDefinition → Type 0
  IsInputKnown value = IsNameKnown (named_type value.ty)

  abbrev pub AreInputsKnown : List InputValueDefinition → Type 0
  AreInputsKnown values = AllByRecursion IsInputKnown values

  pub record IsFieldKnown (field : FieldDefinition) : Type 0 where
    pub ty : IsNameKnown (named_type field.ty)
    pub arguments : AreInputsKnown field.arguments

  -- what a type refers to is defined
  pub record ArePartsKnown (ty : ExtendedType) : Type 0 where
    pub fields : AllByRecursion IsFieldKnown (fields_of ty)
    pub input_fields : AreInputsKnown (inputs_of ty)
    pub interfaces : AreNamesKnown (interfaces_of ty)
    pub members : AreNamesKnown (members_of ty)

  -- each type is the first of its name
  abbrev pub IsFirst : ExtendedType → Type 0
  IsFirst ty = type_called (type_name ty).text types ≡ Some ty

  abbrev pub IsRootKnown : Option Named → Type 0
  IsRootKnown None = Unit {0}
  IsRootKnown (Some name) = IsNameKnown name

  abbrev pub AreArgumentsKnown : DirectiveDefinition → Type 0
  AreArgumentsKnown directive = AreInputsKnown directive.arguments

pub record IsWhole (schema : Schema) : Type 0 where
  pub first : AllByRecursion (IsFirst schema.types) schema.types
  pub types : AllByRecursion (ArePartsKnown schema.types) schema.types
  pub directives : AllByRecursion (AreArgumentsKnown schema.types) schema.directive_definitions
  pub query : IsRootKnown schema.types schema.schema_definition.query
  pub mutation : IsRootKnown schema.types schema.schema_definition.mutation
  pub subscription : IsRootKnown schema.types schema.schema_definition.subscription

-- the root type of queries has no field of its own in the place of the schema's
abbrev pub HasSchemaField : Schema → Named → Type 0
HasSchemaField schema root = field_of schema root.text (codes "__schema") ≡ Some schema_field
