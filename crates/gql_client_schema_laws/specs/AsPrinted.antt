-- A schema as printing leaves it: no uses of directives but those that tell what introspection shows, and defaults that are constant.
use Rattle.std.specs.Prelude.{ℕ, List, [], Option, Some, None}
use Rattle.std.specs.List.{AllByRecursion}
use Rattle.std.specs.Option.{option_map}
use Rattle.gql_ast_base.specs.declared.directive.Directive.{Directive}
use Rattle.gql_ast_base.specs.declared.value.Value.{Value}
use Rattle.gql_ast.specs.declared.field_definition.EnumValueDefinition.{EnumValueDefinition}
use Rattle.gql_ast.specs.declared.field_definition.FieldDefinition.{FieldDefinition}
use Rattle.gql_ast.specs.declared.field_definition.InputValueDefinition.{InputValueDefinition}
use Rattle.gql_ast.specs.declared.schema_definition.DirectiveDefinition.{DirectiveDefinition}
use Rattle.gql_client_schema_laws.specs.Parts.{deprecation_in, says_one_of}
use Rattle.gql_introspection.specs.Deprecation.{default_reason, specified_by}
use Rattle.gql_print_laws.specs.Literal.{literal_in}
use Rattle.gql_print_laws.specs.Written.{IsConstant}
use Rattle.gql_client_schema_laws.specs.Uses.{AreUses, deprecation_uses, url_uses, one_of_uses}
use Rattle.gql_schema_types.specs.declared.schema.Schema.{Schema}
use Rattle.gql_schema_types.specs.declared.types.ExtendedType.{ExtendedType}
use Rattle.gql_schema_types.specs.declared.types.ExtendedType.TheVariants as type
use Rattle.gql_sdl.specs.declared.shown.Deprecation.{Deprecation}

abbrev pub reason_of : Deprecation → Option (List ℕ)
reason_of deprecation = deprecation.reason

-- `why` is the reason that counts where `@deprecated` gives none
module _ (why : Option Value) where
  -- `@deprecated` with what is shown of it, and nothing else
  abbrev pub IsDeprecated : List Directive → Type 0
  IsDeprecated directives = AreUses (deprecation_uses (option_map reason_of (deprecation_in why directives))) directives

  abbrev pub InputUses : InputValueDefinition → Type 0
  InputUses input = IsDeprecated input.directives

  pub record FieldUses (field : FieldDefinition) : Type 0 where
    pub itself : IsDeprecated field.directives
    pub arguments : AllByRecursion InputUses field.arguments

  abbrev pub ValueUses : EnumValueDefinition → Type 0
  ValueUses value = IsDeprecated value.directives

  abbrev pub TypeUses : ExtendedType → Type 0
  TypeUses (type.Scalar it) = AreUses (url_uses (specified_by it.directives)) it.directives
  TypeUses (type.Object it) = AreUses [] it.directives × AllByRecursion FieldUses it.fields
  TypeUses (type.Interface it) = AreUses [] it.directives × AllByRecursion FieldUses it.fields
  TypeUses (type.Union it) = AreUses [] it.directives
  TypeUses (type.Enum it) = AreUses [] it.directives × AllByRecursion ValueUses it.values
  TypeUses (type.InputObject it) = AreUses (one_of_uses (says_one_of it.directives)) it.directives × AllByRecursion InputUses it.fields

  abbrev pub DirectiveUses : DirectiveDefinition → Type 0
  DirectiveUses directive = AllByRecursion InputUses directive.arguments

pub record UsesAsPrinted (schema : Schema) : Type 0 where
  pub itself : AreUses [] schema.schema_definition.directives
  pub types : AllByRecursion (TypeUses (default_reason schema)) schema.types
  pub directives : AllByRecursion (DirectiveUses (default_reason schema)) schema.directive_definitions

-- ---- defaults

abbrev pub IsConstantValue : Option Value → Type 0
IsConstantValue None = Unit {0}
IsConstantValue (Some value) = IsConstant (literal_in value)

abbrev pub HasConstantDefault : InputValueDefinition → Type 0
HasConstantDefault input = IsConstantValue input.default_value

abbrev pub HasConstantArguments : FieldDefinition → Type 0
HasConstantArguments field = AllByRecursion HasConstantDefault field.arguments

abbrev pub HasConstantParts : ExtendedType → Type 0
HasConstantParts (type.Object it) = AllByRecursion HasConstantArguments it.fields
HasConstantParts (type.Interface it) = AllByRecursion HasConstantArguments it.fields
HasConstantParts (type.InputObject it) = AllByRecursion HasConstantDefault it.fields
HasConstantParts _ = Unit {0}

abbrev pub HasConstantParameters : DirectiveDefinition → Type 0
HasConstantParameters directive = AllByRecursion HasConstantDefault directive.arguments

pub record AreConstantDefaults (schema : Schema) : Type 0 where
  pub types : AllByRecursion HasConstantParts schema.types
  pub directives : AllByRecursion HasConstantParameters schema.directive_definitions
