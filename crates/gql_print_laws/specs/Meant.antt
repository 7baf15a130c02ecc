-- What the definitions of a document say.
use Rattle.std.specs.Prelude.{map}
use Rattle.std.specs.Option.{option_map}
use Rattle.gql_ast.specs.ValueText.{value_text}
use Rattle.gql_ast.specs.declared.definition.Definition.{Definition}
use Rattle.gql_ast.specs.declared.definition.Definition.TheVariants as definition
use Rattle.gql_ast_base.specs.Names.{Named}
use Rattle.gql_ast_base.specs.declared.directive.Argument.{Argument}
use Rattle.gql_ast_base.specs.declared.directive.Directive.{Directive}
use Rattle.gql_ast_base.specs.declared.operation_type.OperationType.{OperationType}
use Rattle.gql_ast.specs.declared.field_definition.EnumValueDefinition.{EnumValueDefinition}
use Rattle.gql_ast.specs.declared.field_definition.FieldDefinition.{FieldDefinition}
use Rattle.gql_ast.specs.declared.field_definition.InputValueDefinition.{InputValueDefinition}
use Rattle.gql_ast.specs.declared.schema_definition.DirectiveDefinition.{DirectiveDefinition}
use Rattle.gql_ast.specs.declared.schema_definition.SchemaDefinition.{SchemaDefinition}
use Rattle.gql_ast.specs.declared.type_definition.EnumTypeDefinition.{EnumTypeDefinition}
use Rattle.gql_ast.specs.declared.type_definition.InputObjectTypeDefinition.{InputObjectTypeDefinition}
use Rattle.gql_ast.specs.declared.type_definition.InterfaceTypeDefinition.{InterfaceTypeDefinition}
use Rattle.gql_ast.specs.declared.type_definition.ObjectTypeDefinition.{ObjectTypeDefinition}
use Rattle.gql_ast.specs.declared.type_definition.ScalarTypeDefinition.{ScalarTypeDefinition}
use Rattle.gql_ast.specs.declared.type_definition.UnionTypeDefinition.{UnionTypeDefinition}
use Rattle.gql_ast_laws.specs.Printed.{unplaced}
use Rattle.gql_print_laws.specs.Literal.{literal_in}
use Rattle.gql_sdl.specs.declared.shown.TypeKind.TheVariants.{Scalar, Object, Interface, Union, Enum, InputObject}
use Rattle.gql_print_laws.specs.Plain as plain
use Rattle.gql_print_laws.specs.Plain.{Text, Use, Input, Field, EnumValue, NamedType, bare_type, Roots, Plain}

abbrev pub name_text : Named → Text
name_text name = name.text

abbrev pub argument_says : Argument → plain.Argument
argument_says it = (it.name.text, literal_in it.value)

abbrev pub use_says : Directive → Use
use_says it = record { name = it.name.text; arguments = map argument_says it.arguments }

abbrev pub input_says : InputValueDefinition → Input
input_says it = record {
  description = it.description;
  name = it.name.text;
  ty = unplaced it.ty;
  default = option_map value_text it.default_value;
  uses = map use_says it.directives;
}

abbrev pub field_says : FieldDefinition → Field
field_says it = record {
  description = it.description;
  name = it.name.text;
  arguments = map input_says it.arguments;
  ty = unplaced it.ty;
  uses = map use_says it.directives;
}

abbrev pub enum_value_says : EnumValueDefinition → EnumValue
enum_value_says it = record { description = it.description; name = it.value.text; uses = map use_says it.directives }

abbrev pub scalar_says : ScalarTypeDefinition → NamedType
scalar_says it = bare_type Scalar it.description it.name.text (map use_says it.directives)

abbrev pub object_says : ObjectTypeDefinition → NamedType
object_says it = record (bare_type Object it.description it.name.text (map use_says it.directives)) {
  interfaces = map name_text it.implements_interfaces;
  fields = map field_says it.fields;
}

abbrev pub interface_says : InterfaceTypeDefinition → NamedType
interface_says it = record (bare_type Interface it.description it.name.text (map use_says it.directives)) {
  interfaces = map name_text it.implements_interfaces;
  fields = map field_says it.fields;
}

abbrev pub union_says : UnionTypeDefinition → NamedType
union_says it = record (bare_type Union it.description it.name.text (map use_says it.directives)) { members = map name_text it.members }

abbrev pub enum_says : EnumTypeDefinition → NamedType
enum_says it = record (bare_type Enum it.description it.name.text (map use_says it.directives)) { values = map enum_value_says it.values }

abbrev pub input_object_says : InputObjectTypeDefinition → NamedType
input_object_says it = record (bare_type InputObject it.description it.name.text (map use_says it.directives)) { inputs = map input_says it.fields }

abbrev pub directive_says : DirectiveDefinition → plain.Directive
directive_says it = record {
  description = it.description;
  name = it.name.text;
  arguments = map input_says it.arguments;
  repeatable = it.repeatable;
  locations = it.locations;
}

abbrev pub root_says : OperationType × Named → OperationType × Text
root_says root = (root.0, root.1.text)

abbrev pub schema_says : SchemaDefinition → Roots
schema_says it = record {
  description = it.description;
  uses = map use_says it.directives;
  operations = map root_says it.root_operations;
}

abbrev pub says : Definition → Plain
says (definition.SchemaDefinition it) = plain.schema (schema_says it)
says (definition.DirectiveDefinition it) = plain.directive (directive_says it)
says (definition.ScalarTypeDefinition it) = plain.named_type (scalar_says it)
says (definition.ObjectTypeDefinition it) = plain.named_type (object_says it)
says (definition.InterfaceTypeDefinition it) = plain.named_type (interface_says it)
says (definition.UnionTypeDefinition it) = plain.named_type (union_says it)
says (definition.EnumTypeDefinition it) = plain.named_type (enum_says it)
says (definition.InputObjectTypeDefinition it) = plain.named_type (input_object_says it)
says _ = plain.other
