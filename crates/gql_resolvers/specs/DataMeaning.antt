-- What plain JSON data resolves to.
use Rattle.std.specs.Prelude.{ℕ, Bool, false, if◌then◌else◌, List, [], ◌∷◌, Option, Some, None, codes}
use Rattle.std.specs.Option.{unwrap_or, option_and_then, option_map_or}
use Rattle.std.specs.Str.{bytes_eq}
use Rattle.std.specs.Map.{lookup}
use Rattle.jb_tree.specs.declared.value.Value.{Value}
use Rattle.jb_tree.specs.declared.value.Value.TheVariants.{Null}
use Rattle.jb_tree.specs.Value.{array_items, object_members, string_text}
use Rattle.gql_ast_base.specs.Names.{Named}
use Rattle.gql_ast.specs.declared.field_definition.FieldDefinition.{FieldDefinition}
use Rattle.gql_ast_base.specs.declared.type_ref.TypeRef.{TypeRef, fold-TypeRef}
use Rattle.gql_ast_base.specs.declared.type_ref.TypeRef.TheOpen.{TypeRef-F}
use Rattle.gql_ast_base.specs.TypeParts.{named_type}
use Rattle.gql_schema_types.specs.Schemas.{field_of}
use Rattle.gql_schema_types.specs.Types.{is_composite}
use Rattle.gql_schema_types.specs.declared.schema.Schema.{Schema}
use Rattle.gql_schema_types.specs.declared.types.ExtendedType.{ExtendedType}
use Rattle.gql_schema_types.specs.declared.types.ObjectType.{ObjectType}
use Rattle.gql_resolvers.specs.Resolved.{Meaning, Meanings, gives_leaf, gives_object, gives_list, fails_with, no_answer, answer_then}
use Rattle.gql_resolvers.specs.Data.{Data}
use Rattle.gql_resolvers.specs.Meaning.{Members}
use Rattle.gql_resolvers.specs.NamedTypes.{type_named_by_field}

-- the text of a member, where it is one
abbrev pub text_member : List ℕ → Members → Option (List ℕ)
text_member name members = option_and_then string_text (lookup (bytes_eq name) members)

-- the text of a value that stands for a failure
abbrev pub failure_text : Value → Option (List ℕ)
failure_text value = option_and_then (text_member (codes "__error")) (object_members value)

-- the type that the data tells, else this one
abbrev pub told_name : List ℕ → Members → List ℕ
told_name name members = unwrap_or (text_member (codes "__typename") members) name

abbrev pub unless_failed : Option (List ℕ) → Meaning Data → Meaning Data
unless_failed (Some text) meaning = fails_with text
unless_failed None meaning = meaning

-- an array is a list at the type of a list, of items that are shaped in turn
abbrev pub shaped_items : (Value → Meaning Data) → List Value → Meanings Data
shaped_items item [] = no_answer
shaped_items item (v ∷ vs) = answer_then (item v) (shaped_items item vs)

abbrev pub list_or_leaf : (Value → Meaning Data) → Value → Option (List Value) → Meaning Data
list_or_leaf item value (Some values) = gives_list (shaped_items item values)
list_or_leaf item value None = gives_leaf value

-- an object is an object at an object, an interface or a union type, whose name is given; all else is a leaf
abbrev pub object_or_leaf : Option Named → Value → Option Members → Meaning Data
object_or_leaf (Some T) value (Some members) = gives_object (record { type_name = told_name T.text members; members = members })
object_or_leaf (Some T) value None = gives_leaf value
object_or_leaf None value members = gives_leaf value

module _ (composite : Option Named) where
  -- a value that is no failure at one level of a type
  abbrev pub unfailed_level : TypeRef-F (Value → Meaning Data) → Value → Meaning Data
  unfailed_level (TypeRef-F.Named name) value = object_or_leaf composite value (object_members value)
  unfailed_level (TypeRef-F.NonNullNamed name) value = object_or_leaf composite value (object_members value)
  unfailed_level (TypeRef-F.List item) value = list_or_leaf item value (array_items value)
  unfailed_level (TypeRef-F.NonNullList item) value = list_or_leaf item value (array_items value)

  abbrev pub shape_level : TypeRef-F (Value → Meaning Data) → Value → Meaning Data
  shape_level level value = unless_failed (failure_text value) (unfailed_level level value)

  -- a value at a type, whose name within all lists is that of an object, an interface or a union type where it is given
  abbrev pub shaped : TypeRef → Value → Meaning Data
  shaped = fold-TypeRef (Value → Meaning Data) shape_level

abbrev pub is_composite_type : Option ExtendedType → Bool
is_composite_type found = option_map_or is_composite found false

-- the name, where it is that of an object, an interface or a union type, which is given as the schema has it
abbrev pub composite_name : Option ExtendedType → Named → Option Named
composite_name named name = if is_composite_type named then Some name else None

-- a value at no type
abbrev pub untyped : Value → Meaning Data
untyped value = unless_failed (failure_text value) (gives_leaf value)

-- a value of the data at a field, whose type names this type of the schema, or at none
abbrev pub value_at : Option FieldDefinition → Option ExtendedType → Value → Meaning Data
value_at (Some definition) named value = shaped (composite_name named (named_type definition.ty)) definition.ty value
value_at None named value = untyped value

abbrev pub value_of : Schema → Option FieldDefinition → Value → Meaning Data
value_of schema definition value = value_at definition (type_named_by_field schema definition) value

abbrev pub value_or_null : Schema → Option FieldDefinition → Option Value → Meaning Data
value_or_null schema definition (Some value) = value_of schema definition value
value_or_null schema definition None = gives_leaf Null

-- the field of this name on the type T: the member of its name, null where it is absent, shaped by the field's type
abbrev pub data_meaning : Schema → ObjectType → Data → List ℕ → Members → Meaning Data
data_meaning schema T object f arguments =
    value_or_null schema (field_of schema T.name.text f) (lookup (bytes_eq f) object.members)
