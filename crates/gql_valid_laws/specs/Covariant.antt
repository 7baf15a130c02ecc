-- Object types have the fields of what they stand for, with types that fit: sections 3.6, 3.7 and 3.8 of GraphQL October 2021.
use Rattle.std.specs.Prelude.{◌≡◌, ℕ, suc, true, List, Some}
use Rattle.gql_ast_base.specs.TypeParts.{named_type}
use Rattle.gql_ast_base.specs.declared.type_ref.TypeRef.{TypeRef, fold-TypeRef}
use Rattle.gql_ast_base.specs.declared.type_ref.TypeRef.TheOpen.{TypeRef-F}
use Rattle.gql_ast.specs.declared.field_definition.FieldDefinition.{FieldDefinition}
use Rattle.gql_collect.specs.Applies.{applies}
use Rattle.gql_schema_types.specs.Schemas.{field_of, object_of}
use Rattle.gql_schema_types.specs.declared.schema.Schema.{Schema}
use Rattle.gql_schema_types.specs.declared.types.ObjectType.{ObjectType}

abbrev pub list_level : TypeRef-F ℕ → ℕ
list_level (TypeRef-F.Named name) = 0
list_level (TypeRef-F.NonNullNamed name) = 0
list_level (TypeRef-F.List item) = suc item
list_level (TypeRef-F.NonNullList item) = suc item

-- how many lists are inside one another
abbrev pub lists_in : TypeRef → ℕ
lists_in = fold-TypeRef ℕ list_level

module _ (schema : Schema) where
  -- it is the schema's object type of its name
  abbrev pub IsObject : ObjectType → Type 0
  IsObject object = object_of schema object.name.text ≡ Some object

  -- an object of the type can stand where the type of the name is wanted
  abbrev pub Stands : ObjectType → List ℕ → Type 0
  Stands object name = applies schema.types object name ≡ true

  -- as many lists in one another, and what stands for the one stands for the other
  pub record IsSub (wanted ty : TypeRef) : Type 0 where
    pub lists : lists_in ty ≡ lists_in wanted
    pub stands : (V : ObjectType) → IsObject V → Stands V (named_type ty).text → Stands V (named_type wanted).text

  -- each field of what an object type stands for is its own too, at a type that fits
  abbrev pub IsCovariant : Type 0
  IsCovariant =
      (T : ObjectType) (ty name : List ℕ) (wanted : FieldDefinition) → IsObject T → Stands T ty → field_of schema ty name ≡ Some wanted
      → (own : FieldDefinition) × (field_of schema T.name.text name ≡ Some own) × IsSub wanted.ty own.ty
