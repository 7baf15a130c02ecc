-- What a resolver is told, whatever the private fields are.
use Rattle.std.specs.Prelude.{◌≡◌, ℕ, List, Option}
use Rattle.std.specs.Borrow.{Bor}
use Rattle.gql_ast.specs.declared.field_definition.FieldDefinition.{FieldDefinition}
use Rattle.gql_document_types.specs.declared.document.ExecutableDocument.{ExecutableDocument}
use Rattle.gql_document_types.specs.declared.selection.Field.{Field}
use Rattle.gql_schema_types.specs.Schemas.{field_of}
use Rattle.gql_schema_types.specs.declared.implementers.Implementers.{Implementers}
use Rattle.gql_schema_types.specs.declared.schema.Schema.{Schema}
use Rattle.gql_schema_types.specs.declared.types.ObjectType.{ObjectType}
use Rattle.gql_resolvers.specs.Meaning.{Members}
use Rattle.gql_resolvers.specs.declared.resolve_info.RequestInfo.{RequestInfo}
use Rattle.gql_resolvers.specs.declared.resolve_info.ResolveInfo.{ResolveInfo}

abbrev pub schema_of : ResolveInfo → Schema
schema_of info = info.request.now.schema.now

abbrev pub implementers_of : ResolveInfo → List (List ℕ × Implementers)
implementers_of info = info.request.now.implementers_map.now

abbrev pub document_of : ResolveInfo → ExecutableDocument
document_of info = info.request.now.document.now

abbrev pub object_type_of : ResolveInfo → ObjectType
object_type_of info = info.object_type.now

abbrev pub field_name_of : ResolveInfo → List ℕ
field_name_of info = info.field.now.name.text

abbrev pub field_definition_of : ResolveInfo → FieldDefinition
field_definition_of info = info.field.now.definition

-- the definition of the field on the object type, where it has one
abbrev pub definition_on_type : ResolveInfo → Option FieldDefinition
definition_on_type info = field_of (schema_of info) (object_type_of info).name.text (field_name_of info)

abbrev pub field_selections_of : ResolveInfo → List (Bor Field)
field_selections_of info = info.fields.now

abbrev pub arguments_of : ResolveInfo → Members
arguments_of info = info.arguments.now

-- it tells these
pub record IsInfo (info : ResolveInfo) (request : RequestInfo) (T : ObjectType) (field : Field) (fields : List (Bor Field)) (arguments : Members) : Type 0 where
  pub schema : schema_of info ≡ request.schema.now
  pub implementers : implementers_of info ≡ request.implementers_map.now
  pub document : document_of info ≡ request.document.now
  pub object_type : object_type_of info ≡ T
  pub field_name : field_name_of info ≡ field.name.text
  pub definition : field_definition_of info ≡ field.definition
  pub selections : field_selections_of info ≡ fields
  pub values : arguments_of info ≡ arguments

-- it tells the same as another
pub record TellsSame (info other : ResolveInfo) : Type 0 where
  pub schema : schema_of info ≡ schema_of other
  pub implementers : implementers_of info ≡ implementers_of other
  pub document : document_of info ≡ document_of other
  pub object_type : object_type_of info ≡ object_type_of other
  pub field_name : field_name_of info ≡ field_name_of other
  pub definition : field_definition_of info ≡ field_definition_of other
  pub selections : field_selections_of info ≡ field_selections_of other
  pub values : arguments_of info ≡ arguments_of other
