-- What the texts of the self-test's request mean: two object types, and one operation with three selections.
use Rattle.std.specs.Prelude.{◌≡◌, ℕ, false, List, [], ◌∷◌, Option, Some, None, codes}
use Rattle.gql_ast.specs.declared.field_definition.FieldDefinition.{FieldDefinition}
use Rattle.gql_ast_base.specs.TypeParts.{named_type}
use Rattle.gql_document_types.specs.declared.document.ExecutableDocument.{ExecutableDocument}
use Rattle.gql_document_types.specs.declared.operation.Operation.{Operation}
use Rattle.gql_document_types.specs.declared.selection.Field.{Field}
use Rattle.gql_document_types.specs.declared.selection.Selection.{Selection}
use Rattle.gql_document_types.specs.declared.selection.Selection.TheVariants as selection
use Rattle.gql_schema_types.specs.Schemas.{field_of, object_of}
use Rattle.gql_schema_types.specs.Types.{is_composite, type_called}
use Rattle.gql_schema_types.specs.declared.schema.Schema.{Schema}
use Rattle.gql_schema_types.specs.declared.types.ExtendedType.{ExtendedType}
use Rattle.gql_schema_types.specs.declared.types.ExtendedType.TheVariants as type
use Rattle.gql_schema_types.specs.declared.types.ObjectType.{ObjectType}
use Rattle.gql_source.specs.Span.{Span}

-- a field with its definition, without an alias, arguments and directives; and with these places
abbrev pub selected : List ℕ → FieldDefinition → List Selection → (name whole : Option Span) → Field
selected name definition selections place whole = record {
  alias = None;
  name = record { text = name; location = place };
  arguments = [];
  directives = [];
  selection_set = record { ty = named_type definition.ty; selections = selections };
  location = whole;
  definition = definition;
}

-- a field of this type has no fields
abbrev pub IsLeaf : Schema → FieldDefinition → Type 0
IsLeaf schema definition = (ty : ExtendedType) → type_called (named_type definition.ty).text schema.types ≡ Some ty → is_composite ty ≡ false

-- the two object types, and their fields
pub record AreTypes (schema : Schema) : Type 0 where
  pub query : ObjectType
  pub item : ObjectType
  pub is_query : object_of schema (codes "Query") ≡ Some query
  pub query_name : query.name.text ≡ codes "Query"
  pub item_name : item.name.text ≡ codes "Item"
  pub items : FieldDefinition
  pub id : FieldDefinition
  pub tags : FieldDefinition
  pub is_item : type_called (codes "Item") schema.types ≡ Some (type.Object item)
  pub items_there : field_of schema query.name.text (codes "items") ≡ Some items
  pub items_type : (named_type items.ty).text ≡ codes "Item"
  pub id_there : field_of schema item.name.text (codes "id") ≡ Some id
  pub id_leaf : IsLeaf schema id
  pub tags_there : field_of schema item.name.text (codes "tags") ≡ Some tags
  pub tags_leaf : IsLeaf schema tags

-- the places of the names and of the fields
pub record Places : Type 0 where
  pub items_name : Option Span
  pub items : Option Span
  pub id_name : Option Span
  pub id : Option Span
  pub tags_name : Option Span
  pub tags : Option Span

abbrev pub inner : {schema : Schema} → AreTypes schema → Places → List Selection
inner types at =
    selection.Field (selected (codes "id") types.id [] at.id_name at.id) ∷ selection.Field (selected (codes "tags") types.tags [] at.tags_name at.tags) ∷ []

-- `{ items { id tags } }`
abbrev pub outer : {schema : Schema} → AreTypes schema → Places → List Selection
outer types at = selection.Field (selected (codes "items") types.items (inner types at) at.items_name at.items) ∷ []

-- the document has no fragments, and the operation selects these on the first type
pub record IsSelfTest (schema : Schema) (document : ExecutableDocument) (operation : Operation) : Type 0 where
  pub types : AreTypes schema
  pub at : Places
  pub no_fragments : document.fragments ≡ []
  pub selections : operation.selection_set.selections ≡ outer types at
  pub on_query : object_of schema operation.selection_set.ty.text ≡ Some types.query
