-- What the rows of the built-in definitions stand for: the parts of their text that stand at these places.
use Rattle.std.specs.Prelude.{◌+◌, ◌-◌, false, List, [], map, slice_range, Some, None}
use Rattle.std.specs.Option.{option_map}
use Rattle.gql_source.specs.Span.{Span}
use Rattle.gql_source.specs.declared.file_id.FileId.{FileId}
use Rattle.gql_ast_base.specs.Names.{Named}
use Rattle.gql_ast_base.specs.Parts.{Text}
use Rattle.gql_ast_base.specs.declared.type_ref.TypeRef.{TypeRef, List as ListOf}
use Rattle.gql_ast_base.specs.declared.type_ref.TypeRef.TheVariants.{Named as NamedType}
use Rattle.gql_ast_base.specs.Types.{non_null}
use Rattle.gql_ast_base.specs.declared.value.Value.{Value}
use Rattle.gql_ast_base.specs.declared.value.ValueKind.{ValueKind}
use Rattle.gql_ast_base.specs.declared.value.ValueKind.TheVariants.{String, Boolean}
use Rattle.gql_ast.specs.declared.field_definition.FieldDefinition.{FieldDefinition}
use Rattle.gql_ast.specs.declared.field_definition.InputValueDefinition.{InputValueDefinition}
use Rattle.gql_ast.specs.declared.field_definition.EnumValueDefinition.{EnumValueDefinition}
use Rattle.gql_ast.specs.declared.type_definition.ScalarTypeDefinition.{ScalarTypeDefinition}
use Rattle.gql_ast.specs.declared.type_definition.ObjectTypeDefinition.{ObjectTypeDefinition}
use Rattle.gql_ast.specs.declared.type_definition.EnumTypeDefinition.{EnumTypeDefinition}
use Rattle.gql_ast.specs.declared.schema_definition.DirectiveDefinition.{DirectiveDefinition}
use Rattle.gql_ast.specs.declared.schema_definition.DirectiveLocation.{DirectiveLocation}
use Rattle.gql_schema.specs.declared.built_in_row.Place.{Place}
use Rattle.gql_schema.specs.declared.built_in_row.Run.{Run}
use Rattle.gql_schema.specs.declared.built_in_row.TypeForm.{TypeForm}
use Rattle.gql_schema.specs.declared.built_in_row.TypeForm.TheVariants as form
use Rattle.gql_schema.specs.declared.built_in_row.TypeRow.{TypeRow}
use Rattle.gql_schema.specs.declared.built_in_row.ValueForm.{ValueForm}
use Rattle.gql_schema.specs.declared.built_in_row.ValueForm.TheVariants as content
use Rattle.gql_schema.specs.declared.built_in_row.ValueRow.{ValueRow}
use Rattle.gql_schema.specs.declared.built_in_row.ArgumentRow.{ArgumentRow}
use Rattle.gql_schema.specs.declared.built_in_row.FieldRow.{FieldRow}
use Rattle.gql_schema.specs.declared.built_in_row.ObjectRow.{ObjectRow}
use Rattle.gql_schema.specs.declared.built_in_row.EnumRow.{EnumRow}
use Rattle.gql_schema.specs.declared.built_in_row.ScalarRow.{ScalarRow}
use Rattle.gql_schema.specs.declared.built_in_row.DirectiveRow.{DirectiveRow}
use Rattle.gql_schema.specs.declared.built_in_field_rows.TheConstants.{ARGUMENTS, FIELDS}
use Rattle.gql_schema.specs.declared.built_in_rows.TheConstants.{VALUES, LOCATIONS}

-- ---- the rows of a table between these

unfoldable pub arguments_at : Run → List ArgumentRow
arguments_at run = slice_range ARGUMENTS.now run.0 run.1

unfoldable pub fields_at : Run → List FieldRow
fields_at run = slice_range FIELDS.now run.0 run.1

unfoldable pub values_at : Run → List Place
values_at run = slice_range VALUES.now run.0 run.1

unfoldable pub locations_at : Run → List DirectiveLocation
locations_at run = slice_range LOCATIONS.now run.0 run.1

-- ---- what a row stands for

-- the place in the file
abbrev pub span : FileId → Place → Span
span file place = record { file_id = file; offset = place.0; end_offset = place.1 }

-- a reference to the type with the name
abbrev pub formed : TypeForm → Named → TypeRef
formed form.Plain name = NamedType name
formed form.Required name = non_null (NamedType name)
formed form.List name = ListOf (non_null (NamedType name))
formed form.RequiredList name = non_null (ListOf (non_null (NamedType name)))

module _ (text : Text) (file : FileId) where
  abbrev pub name_at : Place → Named
  name_at place = record { text = slice_range text place.0 place.1; location = Some (span file place) }

  abbrev pub type_of : TypeRow → TypeRef
  type_of row = formed row.0 (name_at row.1)

  -- a string stands between its quotes
  abbrev pub content_of : ValueForm → Place → ValueKind
  content_of content.False place = Boolean false
  content_of content.Quoted place = String (slice_range text (place.0 + 1) (place.1 - 1))

  abbrev pub value_of : ValueRow → Value
  value_of row = record { kind = content_of row.0 row.1; location = Some (span file row.1) }

  unfoldable pub argument_of : ArgumentRow → InputValueDefinition
  argument_of row = record {
    description = None;
    name = name_at row.name;
    ty = type_of row.ty;
    default_value = option_map value_of row.default_value;
    directives = [];
    location = Some (span file row.place);
  }

  unfoldable pub field_of : FieldRow → FieldDefinition
  field_of row = record {
    description = None;
    name = name_at row.name;
    arguments = map argument_of (arguments_at row.arguments);
    ty = type_of row.ty;
    directives = [];
    location = Some (span file row.place);
  }

  -- a value of an enum type is its name alone
  unfoldable pub enum_value_of : Place → EnumValueDefinition
  enum_value_of place = record { description = None; value = name_at place; directives = []; location = Some (span file place) }

  unfoldable pub object_of : ObjectRow → ObjectTypeDefinition
  object_of row = record {
    description = None;
    name = name_at row.name;
    implements_interfaces = [];
    directives = [];
    fields = map field_of (fields_at row.fields);
    location = Some (span file row.place);
  }

  unfoldable pub enum_of : EnumRow → EnumTypeDefinition
  enum_of row = record {
    description = None;
    name = name_at row.name;
    directives = [];
    values = map enum_value_of (values_at row.values);
    location = Some (span file row.place);
  }

  unfoldable pub scalar_of : ScalarRow → ScalarTypeDefinition
  scalar_of row = record { description = None; name = name_at row.name; directives = []; location = Some (span file row.place) }

  unfoldable pub directive_of : DirectiveRow → DirectiveDefinition
  directive_of row = record {
    description = None;
    name = name_at row.name;
    arguments = map argument_of (arguments_at row.arguments);
    repeatable = false;
    locations = locations_at row.locations;
    location = Some (span file row.place);
  }
