-- The parts of small schemas and queries: types without descriptions, directives and arguments, and fields by where they stand.
use Rattle.std.specs.Prelude.{ℕ, ◌+◌, List, [], ◌∷◌, map, length, Some, None, true, codes}
use Rattle.gql_source.specs.declared.file_id.FileId.{FileId}
use Rattle.gql_ast_base.specs.Names.{Named}
use Rattle.gql_ast_base.specs.declared.type_ref.TypeRef.{TypeRef}
use Rattle.gql_ast.specs.declared.field_definition.FieldDefinition.{FieldDefinition}
use Rattle.gql_ast_base.specs.TypeParts.{named_type}
use Rattle.gql_document_types.specs.declared.selection.Field.{Field}
use Rattle.gql_document_types.specs.declared.selection.Selection.{Selection}
use Rattle.gql_document_types.specs.declared.selection.Selection.TheVariants as selection
use Rattle.gql_schema_types.specs.MetaFields.{named, field}
use Rattle.gql_schema_types.specs.declared.schema.Schema.{Schema}
use Rattle.gql_schema_types.specs.declared.types.ExtendedType.{ExtendedType}
use Rattle.gql_schema_types.specs.declared.types.ExtendedType.TheVariants as type
use Rattle.gql_schema_types.specs.declared.types.ObjectType.{ObjectType}

abbrev pub scalar : List ℕ → ExtendedType
scalar text = type.Scalar (record { description = None; name = named text; directives = []; location = None })

abbrev pub object : List ℕ → List FieldDefinition → ObjectType
object text fields =
    record { description = None; name = named text; implements_interfaces = []; directives = []; fields = fields; location = None }

-- a field without arguments
abbrev pub plain : List ℕ → TypeRef → FieldDefinition
plain text ty = field text [] ty

-- these object types and the scalar Int; `Query` is the root type
abbrev pub schema : List ObjectType → Schema
schema objects = record {
  sources = [];
  schema_definition =
      record { description = None; directives = []; query = Some (named (codes "Query")); mutation = None; subscription = None; location = None };
  directive_definitions = [];
  types = scalar (codes "Int") ∷ map type.Object objects;
  meta_fields = true;
}

-- the number of the query's file
abbrev pub query_file : FileId
query_file = record { number = 4 }

-- a name from an offset of the query on
abbrev pub name_at : ℕ → List ℕ → Named
name_at offset text = record { text = text; location = Some (record { file_id = query_file; offset = offset; end_offset = offset + length text }) }

-- a field whose name stands at an offset, by its definition, and what is selected below it
abbrev pub field_at : ℕ → FieldDefinition → List Selection → Field
field_at offset definition within = record {
  alias = None;
  name = name_at offset definition.name.text;
  arguments = [];
  directives = [];
  selection_set = record { ty = named_type definition.ty; selections = within };
  location = None;
  definition = definition;
}

abbrev pub select : ℕ → FieldDefinition → List Selection → Selection
select offset definition within = selection.Field (field_at offset definition within)
