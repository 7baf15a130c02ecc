-- Values of the data at one level of a type, and lists of them.
use Rattle.std.proofs.Common.{◌≡◌, List, [], ◌∷◌, map, Option, Some, None, Result, refl, ap, ◌∙◌}
use Rattle.std.specs.Prelude.{option_and_then, codes}
use Rattle.jb_tree.specs.Value.{array_items, object_members}
use Rattle.gql_ast.specs.declared.field_definition.FieldDefinition.{FieldDefinition}
use Rattle.gql_ast_base.specs.TypeParts.{named_type}
use Rattle.gql_ast_base.specs.TypeParts.{item_type}
use Rattle.gql_schema_types.specs.declared.schema.Schema.{Schema}
use Rattle.gql_resolvers.specs.Resolved.{gives_leaf}
use Rattle.jb_tree.specs.declared.value.Value.{Value}
use Rattle.gql_ast_base.specs.Names.{Named}
use Rattle.gql_ast_base.specs.declared.type_ref.TypeRef.{TypeRef, out-TypeRef, fold_out-TypeRef}
use Rattle.gql_ast_base.specs.declared.type_ref.TypeRef as ref
use Rattle.gql_ast_base.specs.declared.type_ref.TypeRef.TheOpen.{TypeRef-F}
use Rattle.gql_ast_base.specs.TypeParts.{item_level}
use Rattle.gql_resolvers.specs.Resolved.{Meaning, answer_then}
use Rattle.gql_resolvers.specs.Data.{Data}
use Rattle.gql_resolvers.specs.DataMeaning.{failure_text, text_member, unless_failed, shaped_items, list_or_leaf, object_or_leaf, shape_level, shaped, unfailed_level, composite_name, value_of}
use Rattle.gql_resolvers.specs.bridge.DataMeaning.{unfailed_at, unfailed}
use Rattle.gql_schema_types.specs.Schemas.{type_named}
use Rattle.gql_resolvers.specs.Meaning.{item_by, meanings_by, itself}
use Rattle.gql_resolvers.specs.declared.resolve_error.FieldError.{FieldError}
use Rattle.gql_resolvers.specs.declared.resolved_value.ResolvedValue.{ResolvedValue}

module _ (composite : Option Named) where
  at_level : (k : TypeRef-F TypeRef) (value : Value)
      → unfailed_level composite (ref.map-TypeRef TypeRef (Value → Meaning Data) (shaped composite) k) value ≡ unfailed_at composite (item_level k) value
  at_level (TypeRef-F.Named name) value = refl
  at_level (TypeRef-F.NonNullNamed name) value = refl
  at_level (TypeRef-F.List item) value = refl
  at_level (TypeRef-F.NonNullList item) value = refl

  pub shaped-is : (ty : TypeRef) (value : Value) → shaped composite ty value ≡ unless_failed (failure_text value) (unfailed composite ty value)
  shaped-is ty value =
      ap (λ (f : Value → Meaning Data). f value) (fold_out-TypeRef (Value → Meaning Data) (shape_level composite) ty)
      ∙ ap (unless_failed (failure_text value)) (at_level (out-TypeRef ty) value)

-- a list whose items mean what the values are shaped to
pub items-are : (shape : Value → Meaning Data) (items : List (Result (ResolvedValue Data) FieldError)) (values : List Value)
    → map (item_by itself) items ≡ map shape values → meanings_by itself items ≡ shaped_items shape values
items-are shape [] [] same = refl
items-are shape [] (v ∷ vs) same = cc
items-are shape (r ∷ rs) [] same = cc
items-are shape (r ∷ rs) (v ∷ vs) same =
    let first : item_by itself r ≡ shape v = cc in
    let rest : map (item_by itself) rs ≡ map shape vs = cc in
    ap (λ m. answer_then m (meanings_by itself rs)) first ∙ ap (answer_then (shape v)) (items-are shape rs vs rest)

leaf-at : (composite : Option Named) (item : Option TypeRef) (value : Value) → array_items value ≡ None → object_members value ≡ None
    → unfailed_at composite item value ≡ gives_leaf value
leaf-at composite (Some item) value no-array no-object = ap (list_or_leaf (shaped composite item) value) no-array
leaf-at (Some name) None value no-array no-object = ap (object_or_leaf (Some name) value) no-object
leaf-at None None value no-array no-object = refl

unfailed-is : (value : Value) (meaning : Meaning Data) → object_members value ≡ None → unless_failed (failure_text value) meaning ≡ meaning
unfailed-is value meaning no-object = ap (λ m. unless_failed (option_and_then (text_member (codes "__error")) m) meaning) no-object

-- a value that is no list and no object is a leaf at any field
pub simple-is-leaf : (schema : Schema) (definition : Option FieldDefinition) (value : Value)
    → array_items value ≡ None → object_members value ≡ None → value_of schema definition value ≡ gives_leaf value
simple-is-leaf schema None value no-array no-object = unfailed-is value (gives_leaf value) no-object
simple-is-leaf schema (Some definition) value no-array no-object =
    let composite = composite_name (type_named schema definition.ty) (named_type definition.ty) in
    shaped-is composite definition.ty value
    ∙ unfailed-is value (unfailed composite definition.ty value) no-object
    ∙ leaf-at composite (item_type definition.ty) value no-array no-object
