-- Values that were told leave nothing out, at any depth of lists.
use Rattle.std.proofs.Common.{arith, ◌≡◌, ℕ, zero, suc, ◌≤◌, Bool, true, false, List, [], ◌∷◌, Option, Some, None, refl, sym, ap, ◌∙◌, subst}
use Rattle.jb_tree.specs.Value.{array_items, object_members}
use Rattle.jb_tree.specs.declared.value.Value.{Value}
use Rattle.gql_ast_base.specs.declared.type_ref.TypeRef.{TypeRef, fold-TypeRef, out-TypeRef, fold_out-TypeRef}
use Rattle.gql_ast_base.specs.declared.type_ref.TypeRef as ref
use Rattle.gql_ast_base.specs.declared.type_ref.TypeRef.TheOpen.{TypeRef-F}
use Rattle.gql_ast.specs.declared.field_definition.FieldDefinition.{FieldDefinition}
use Rattle.gql_resolvers.specs.DataMeaning.{failure_text, is_composite_type}
use Rattle.gql_resolvers.specs.Meaning.{Members}
use Rattle.gql_resolvers.specs.Resolved.{Meaning, Meanings}
use Rattle.gql_resolvers.specs.Skips.{SkipsNothing, SkipNothing}
use Rattle.gql_schema_types.specs.Schemas.{type_named}
use Rattle.gql_schema_types.specs.declared.schema.Schema.{Schema}
use Rattle.gql_rounds.specs.Known.{Known}
use Rattle.gql_rounds.specs.ToldMeaning.{known_or_leaf, list_or_leaf, object_or_leaf, told_items, told_level, told_value, unfailed_level, unless_failed, value_at}

abbrev IsWhole : (Value → Meaning Known) → Type 0
IsWhole shape = (value : Value) → SkipsNothing (shape value)

unless-whole : (failed : Option (List ℕ)) (m : Meaning Known) → SkipsNothing m → SkipsNothing (unless_failed failed m)
unless-whole (Some text) m whole = tt
unless-whole None m whole = whole

items-whole : (item : Value → Meaning Known) → IsWhole item → (vs : List Value) → SkipNothing (told_items item vs)
items-whole item whole [] = tt
items-whole item whole (v ∷ vs) = (whole v, items-whole item whole vs)

list-whole : (item : Value → Meaning Known) → IsWhole item → (value : Value) (found : Option (List Value)) → SkipsNothing (list_or_leaf item value found)
list-whole item whole value (Some vs) = items-whole item whole vs
list-whole item whole value None = tt

known-whole : (value : Value) (number : Option ℕ) (name : Option (List ℕ)) → SkipsNothing (known_or_leaf value number name)
known-whole value (Some number) (Some name) = tt
known-whole value (Some number) None = tt
known-whole value None name = tt

object-whole : (composite : Bool) (value : Value) (found : Option Members) → SkipsNothing (object_or_leaf composite value found)
object-whole true value (Some members) = known-whole value _ _
object-whole true value None = tt
object-whole false value found = tt

-- ---- by levels

abbrev height_level : TypeRef-F ℕ → ℕ
height_level (TypeRef-F.Named name) = 0
height_level (TypeRef-F.NonNullNamed name) = 0
height_level (TypeRef-F.List item) = suc item
height_level (TypeRef-F.NonNullList item) = suc item

abbrev height : TypeRef → ℕ
height = fold-TypeRef ℕ height_level

module _ (composite : Bool) where
  level-whole : (n : ℕ) → ((ty : TypeRef) → height ty ≤ n → IsWhole (told_value composite ty)) → (k : TypeRef-F TypeRef)
      → height_level (ref.map-TypeRef TypeRef ℕ height k) ≤ suc n
      → (value : Value) → SkipsNothing (unfailed_level composite (ref.map-TypeRef TypeRef (Value → Meaning Known) (told_value composite) k) value)
  level-whole n inside (TypeRef-F.Named name) low value = object-whole composite value (object_members value)
  level-whole n inside (TypeRef-F.NonNullNamed name) low value = object-whole composite value (object_members value)
  level-whole n inside (TypeRef-F.List item) low value = list-whole (told_value composite item) (inside item (omega (arith, low))) value (array_items value)
  level-whole n inside (TypeRef-F.NonNullList item) low value = list-whole (told_value composite item) (inside item (omega (arith, low))) value (array_items value)

  told-out : (ty : TypeRef) (value : Value)
      → told_value composite ty value ≡ told_level composite (ref.map-TypeRef TypeRef (Value → Meaning Known) (told_value composite) (out-TypeRef ty)) value
  told-out ty value = ap (λ (f : Value → Meaning Known). f value) (fold_out-TypeRef (Value → Meaning Known) (told_level composite) ty)

  height-out : (ty : TypeRef) → height ty ≡ height_level (ref.map-TypeRef TypeRef ℕ height (out-TypeRef ty))
  height-out ty = fold_out-TypeRef ℕ height_level ty

  name-whole : (k : TypeRef-F TypeRef) → height_level (ref.map-TypeRef TypeRef ℕ height k) ≤ 0
      → (value : Value) → SkipsNothing (unfailed_level composite (ref.map-TypeRef TypeRef (Value → Meaning Known) (told_value composite) k) value)
  name-whole (TypeRef-F.Named name) low value = object-whole composite value (object_members value)
  name-whole (TypeRef-F.NonNullNamed name) low value = object-whole composite value (object_members value)
  name-whole (TypeRef-F.List item) low value = absurd (omega (arith, low))
  name-whole (TypeRef-F.NonNullList item) low value = absurd (omega (arith, low))

  whole-to : (n : ℕ) (ty : TypeRef) → height ty ≤ n → IsWhole (told_value composite ty)
  whole-to zero ty low value =
      subst SkipsNothing (sym (told-out ty value))
      (unless-whole (failure_text value) _ (name-whole (out-TypeRef ty) (omega (arith, low, height-out ty)) value))
  whole-to (suc n) ty low value =
      subst SkipsNothing (sym (told-out ty value))
      (unless-whole (failure_text value) _ (level-whole n (whole-to n) (out-TypeRef ty) (omega (arith, low, height-out ty)) value))

  told-whole : (ty : TypeRef) → IsWhole (told_value composite ty)
  told-whole ty = whole-to (height ty) ty (omega arith)

pub value-whole : (schema : Schema) (definition : Option FieldDefinition) (value : Value) → SkipsNothing (value_at schema definition value)
value-whole schema (Some definition) value = told-whole (is_composite_type (type_named schema definition.ty)) definition.ty value
value-whole schema None value = tt
