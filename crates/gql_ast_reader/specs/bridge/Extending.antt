-- What an extension becomes, of what it kept of the trees in it and of its place in the file.
use Rattle.std.specs.Prelude.{if◌then◌else◌, Option, Some, None, codes}
use Rattle.std.specs.Option.{option_map}
use Rattle.gql_source.specs.declared.file_id.FileId.{FileId}
use Rattle.gql_source.specs.Span.{Span}
use Rattle.gql_ast_base.specs.Parts.{Text, is_word}
use Rattle.gql_ast.specs.declared.extension.SchemaExtension.{SchemaExtension}
use Rattle.gql_ast.specs.declared.extension.ScalarTypeExtension.{ScalarTypeExtension}
use Rattle.gql_ast.specs.declared.extension.ObjectTypeExtension.{ObjectTypeExtension}
use Rattle.gql_ast.specs.declared.extension.InterfaceTypeExtension.{InterfaceTypeExtension}
use Rattle.gql_ast.specs.declared.extension.UnionTypeExtension.{UnionTypeExtension}
use Rattle.gql_ast.specs.declared.extension.EnumTypeExtension.{EnumTypeExtension}
use Rattle.gql_ast.specs.declared.extension.InputObjectTypeExtension.{InputObjectTypeExtension}
use Rattle.gql_ast.specs.declared.definition.Definition.{Definition}
use Rattle.gql_ast.specs.declared.definition.Definition.TheVariants as definition
use Rattle.gql_ast_reader.specs.declared.row.Row.{Row}
use Rattle.gql_ast_reader.specs.bridge.Places.{name_there, text_there}
use Rattle.gql_ast_reader.specs.bridge.Standing.{listed}

module _ (text : Text) (file : FileId) where
  abbrev pub schema_extension_made : Row → Option Span → SchemaExtension
  schema_extension_made row place = record {
    directives = listed row.groups.directives;
    root_operations = row.root_operations;
    location = place;
  }

  abbrev pub scalar_extension_made : Row → Option Span → Option ScalarTypeExtension
  scalar_extension_made row place =
      option_map (λ name. record {
        name = name;
        directives = listed row.groups.directives;
        location = place;
      }) (name_there text file row.words.three)

  abbrev pub object_extension_made : Row → Option Span → Option ObjectTypeExtension
  object_extension_made row place =
      option_map (λ name. record {
        name = name;
        implements_interfaces = listed row.groups.interfaces;
        directives = listed row.groups.directives;
        fields = listed row.groups.fields;
        location = place;
      }) (name_there text file row.words.three)

  abbrev pub interface_extension_made : Row → Option Span → Option InterfaceTypeExtension
  interface_extension_made row place =
      option_map (λ name. record {
        name = name;
        implements_interfaces = listed row.groups.interfaces;
        directives = listed row.groups.directives;
        fields = listed row.groups.fields;
        location = place;
      }) (name_there text file row.words.three)

  abbrev pub union_extension_made : Row → Option Span → Option UnionTypeExtension
  union_extension_made row place =
      option_map (λ name. record {
        name = name;
        directives = listed row.groups.directives;
        members = listed row.groups.members;
        location = place;
      }) (name_there text file row.words.three)

  abbrev pub enum_extension_made : Row → Option Span → Option EnumTypeExtension
  enum_extension_made row place =
      option_map (λ name. record {
        name = name;
        directives = listed row.groups.directives;
        values = listed row.groups.enum_values;
        location = place;
      }) (name_there text file row.words.three)

  abbrev pub input_object_extension_made : Row → Option Span → Option InputObjectTypeExtension
  input_object_extension_made row place =
      option_map (λ name. record {
        name = name;
        directives = listed row.groups.directives;
        fields = listed row.groups.input_fields;
        location = place;
      }) (name_there text file row.words.three)

  -- the extension of what the second word says
  abbrev pub extension_by : Option Text → Row → Option Span → Option Definition
  extension_by word row place =
      if is_word word (codes "schema") then Some (definition.SchemaExtension (schema_extension_made row place))
      else if is_word word (codes "scalar") then option_map definition.ScalarTypeExtension (scalar_extension_made row place)
      else if is_word word (codes "type") then option_map definition.ObjectTypeExtension (object_extension_made row place)
      else if is_word word (codes "interface") then option_map definition.InterfaceTypeExtension (interface_extension_made row place)
      else if is_word word (codes "union") then option_map definition.UnionTypeExtension (union_extension_made row place)
      else if is_word word (codes "enum") then option_map definition.EnumTypeExtension (enum_extension_made row place)
      else if is_word word (codes "input") then option_map definition.InputObjectTypeExtension (input_object_extension_made row place)
      else None

  abbrev pub extension_made : Row → Option Span → Option Definition
  extension_made row place = extension_by (text_there text row.words.two) row place
