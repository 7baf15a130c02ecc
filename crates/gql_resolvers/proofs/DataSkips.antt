-- Plain JSON data leave nothing out.
use Rattle.std.proofs.Common.{arith, ◌≡◌, ℕ, zero, suc, ◌≤◌, List, [], ◌∷◌, Option, Some, None, refl, sym, ap, ◌∙◌, subst}
use Rattle.std.specs.Map.{lookup}
use Rattle.std.specs.Str.{bytes_eq}
use Rattle.gql_ast_base.specs.Names.{Named}
use Rattle.gql_ast_base.specs.TypeParts.{named_type}
use Rattle.gql_ast_base.specs.declared.type_ref.TypeRef.{TypeRef, fold-TypeRef, out-TypeRef, fold_out-TypeRef}
use Rattle.gql_ast_base.specs.declared.type_ref.TypeRef as ref
use Rattle.gql_ast_base.specs.declared.type_ref.TypeRef.TheOpen.{TypeRef-F}
use Rattle.gql_ast.specs.declared.field_definition.FieldDefinition.{FieldDefinition}
use Rattle.gql_resolvers.specs.Meaning.{Members}
use Rattle.gql_resolvers.specs.Data.{Data}
use Rattle.gql_resolvers.specs.DataMeaning.{failure_text, unless_failed, shaped_items, list_or_leaf, object_or_leaf, unfailed_level, shape_level, shaped, composite_name, value_at, value_or_null, data_meaning}
use Rattle.gql_resolvers.specs.NamedTypes.{type_named_by_field}
use Rattle.gql_resolvers.specs.Resolved.{Meaning, Meanings, gives_leaf}
use Rattle.gql_resolvers.specs.Skips.{SkipsNothing, SkipNothing}
use Rattle.gql_schema_types.specs.Schemas.{field_of}
use Rattle.gql_schema_types.specs.declared.schema.Schema.{Schema}
use Rattle.gql_schema_types.specs.declared.types.ExtendedType.{ExtendedType}
use Rattle.gql_schema_types.specs.declared.types.ObjectType.{ObjectType}
use Rattle.jb_tree.specs.Value.{array_items, object_members}
use Rattle.jb_tree.specs.declared.value.Value.{Value}

abbrev IsWhole : (Value → Meaning Data) → Type 0
IsWhole shape = (value : Value) → SkipsNothing (shape value)

unless-whole : (failed : Option (List ℕ)) (m : Meaning Data) → SkipsNothing m → SkipsNothing (unless_failed failed m)
unless-whole (Some text) m whole = tt
unless-whole None m whole = whole

items-whole : (item : Value → Meaning Data) → IsWhole item → (vs : List Value) → SkipNothing (shaped_items item vs)
items-whole item whole [] = tt
items-whole item whole (v ∷ vs) = (whole v, items-whole item whole vs)

list-whole : (item : Value → Meaning Data) → IsWhole item → (value : Value) (found : Option (List Value)) → SkipsNothing (list_or_leaf item value found)
list-whole item whole value (Some vs) = items-whole item whole vs
list-whole item whole value None = tt

object-whole : (composite : Option Named) (value : Value) (found : Option Members) → SkipsNothing (object_or_leaf composite value found)
object-whole (Some name) value (Some members) = tt
object-whole (Some name) value None = tt
object-whole None value found = tt

-- ---- by levels

abbrev height_level : TypeRef-F ℕ → ℕ
height_level (TypeRef-F.Named name) = 0
height_level (TypeRef-F.NonNullNamed name) = 0
height_level (TypeRef-F.List item) = suc item
height_level (TypeRef-F.NonNullList item) = suc item

abbrev height : TypeRef → ℕ
height = fold-TypeRef ℕ height_level

module _ (composite : Option Named) where
  level-whole : (n : ℕ) → ((ty : TypeRef) → height ty ≤ n → IsWhole (shaped composite ty)) → (k : TypeRef-F TypeRef)
      → height_level (ref.map-TypeRef TypeRef ℕ height k) ≤ suc n
      → (value : Value) → SkipsNothing (unfailed_level composite (ref.map-TypeRef TypeRef (Value → Meaning Data) (shaped composite) k) value)
  level-whole n inside (TypeRef-F.Named name) low value = object-whole composite value (object_members value)
  level-whole n inside (TypeRef-F.NonNullNamed name) low value = object-whole composite value (object_members value)
  level-whole n inside (TypeRef-F.List item) low value = list-whole (shaped composite item) (inside item (omega (arith, low))) value (array_items value)
  level-whole n inside (TypeRef-F.NonNullList item) low value = list-whole (shaped composite item) (inside item (omega (arith, low))) value (array_items value)

  shaped-out : (ty : TypeRef) (value : Value)
      → shaped composite ty value ≡ shape_level composite (ref.map-TypeRef TypeRef (Value → Meaning Data) (shaped composite) (out-TypeRef ty)) value
  shaped-out ty value = ap (λ (f : Value → Meaning Data). f value) (fold_out-TypeRef (Value → Meaning Data) (shape_level composite) ty)

  height-out : (ty : TypeRef) → height ty ≡ height_level (ref.map-TypeRef TypeRef ℕ height (out-TypeRef ty))
  height-out ty = fold_out-TypeRef ℕ height_level ty

  name-whole : (k : TypeRef-F TypeRef) → height_level (ref.map-TypeRef TypeRef ℕ height k) ≤ 0
      → (value : Value) → SkipsNothing (unfailed_level composite (ref.map-TypeRef TypeRef (Value → Meaning Data) (shaped composite) k) value)
  name-whole (TypeRef-F.Named name) low value = object-whole composite value (object_members value)
  name-whole (TypeRef-F.NonNullNamed name) low value = object-whole composite value (object_members value)
  name-whole (TypeRef-F.List item) low value = absurd (omega (arith, low))
  name-whole (TypeRef-F.NonNullList item) low value = absurd (omega (arith, low))

  whole-to : (n : ℕ) (ty : TypeRef) → height ty ≤ n → IsWhole (shaped composite ty)
  whole-to zero ty low value =
      subst SkipsNothing (sym (shaped-out ty value))
      (unless-whole (failure_text value) _ (name-whole (out-TypeRef ty) (omega (arith, low, height-out ty)) value))
  whole-to (suc n) ty low value =
      subst SkipsNothing (sym (shaped-out ty value))
      (unless-whole (failure_text value) _ (level-whole n (whole-to n) (out-TypeRef ty) (omega (arith, low, height-out ty)) value))

  pub shaped-whole : (ty : TypeRef) → IsWhole (shaped composite ty)
  shaped-whole ty = whole-to (height ty) ty (omega arith)

value-whole : (definition : Option FieldDefinition) (named : Option ExtendedType) (value : Value) → SkipsNothing (value_at definition named value)
value-whole (Some definition) named value = shaped-whole (composite_name named (named_type definition.ty)) definition.ty value
value-whole None named value = unless-whole (failure_text value) (gives_leaf value) tt

found-whole : (schema : Schema) (definition : Option FieldDefinition) (found : Option Value) → SkipsNothing (value_or_null schema definition found)
found-whole schema definition (Some value) = value-whole definition (type_named_by_field schema definition) value
found-whole schema definition None = tt

pub data-whole : (schema : Schema) (T : ObjectType) (object : Data) (f : List ℕ) (arguments : Members) → SkipsNothing (data_meaning schema T object f arguments)
data-whole schema T object f arguments = found-whole schema (field_of schema T.name.text f) (lookup (bytes_eq f) object.members)
