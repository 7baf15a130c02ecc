-- The names of the parts of types.
use Rattle.gql_ast_base.specs.Names.{Named}
use Rattle.gql_ast.specs.declared.field_definition.FieldDefinition.{FieldDefinition}
use Rattle.gql_ast.specs.declared.field_definition.InputValueDefinition.{InputValueDefinition}
use Rattle.gql_ast.specs.declared.field_definition.EnumValueDefinition.{EnumValueDefinition}

abbrev pub field_name : FieldDefinition → Named
field_name field = field.name

abbrev pub input_name : InputValueDefinition → Named
input_name value = value.name

abbrev pub value_name : EnumValueDefinition → Named
value_name value = value.value
