-- Values that were told at one level of a type, and lists of them.
use Rattle.std.proofs.Common.{◌≡◌, Bool, List, [], ◌∷◌, map, Result, refl, ap, ◌∙◌}
use Rattle.jb_tree.specs.declared.value.Value.{Value}
use Rattle.gql_ast_base.specs.TypeParts.{item_level}
use Rattle.gql_ast_base.specs.declared.type_ref.TypeRef.{TypeRef, out-TypeRef, fold_out-TypeRef}
use Rattle.gql_ast_base.specs.declared.type_ref.TypeRef as ref
use Rattle.gql_ast_base.specs.declared.type_ref.TypeRef.TheOpen.{TypeRef-F}
use Rattle.gql_exec.specs.Mapped.{all_mapped, mapped}
use Rattle.gql_resolvers.specs.DataMeaning.{failure_text}
use Rattle.gql_resolvers.specs.Meaning.{item_by, meanings_by}
use Rattle.gql_resolvers.specs.Resolved.{Meaning, answer_then}
use Rattle.gql_resolvers.specs.declared.resolve_error.FieldError.{FieldError}
use Rattle.gql_resolvers.specs.declared.resolved_value.ResolvedValue.{ResolvedValue}
use Rattle.gql_rounds.specs.Known.{Entity, Known, beside, entity_of}
use Rattle.gql_rounds.specs.Table.{Table}
use Rattle.gql_rounds.specs.ToldMeaning.{told_items, told_level, told_value, unfailed_level, unless_failed}
use Rattle.gql_rounds.specs.bridge.ToldMeaning.{unfailed, unfailed_at}
use Rattle.gql_rounds.specs.declared.told.Told.{Told}

module _ (composite : Bool) where
  at_level : (k : TypeRef-F TypeRef) (value : Value)
      → unfailed_level composite (ref.map-TypeRef TypeRef (Value → Meaning Known) (told_value composite) k) value ≡ unfailed_at composite (item_level k) value
  at_level (TypeRef-F.Named name) value = refl
  at_level (TypeRef-F.NonNullNamed name) value = refl
  at_level (TypeRef-F.List item) value = refl
  at_level (TypeRef-F.NonNullList item) value = refl

  pub told-value-is : (ty : TypeRef) (value : Value) → told_value composite ty value ≡ unless_failed (failure_text value) (unfailed composite ty value)
  told-value-is ty value =
      ap (λ (f : Value → Meaning Known). f value) (fold_out-TypeRef (Value → Meaning Known) (told_level composite) ty)
      ∙ ap (unless_failed (failure_text value)) (at_level (out-TypeRef ty) value)

-- what a value means beside what was told
abbrev pub beside_told : Table → (Value → Meaning Known) → Value → Meaning Entity
beside_told table shape value = mapped (beside table) (shape value)

-- a list whose items mean what the values are told to be
pub items-are : (table : Table) (shape : Value → Meaning Known) (items : List (Result (ResolvedValue Told) FieldError)) (values : List Value)
    → map (item_by entity_of) items ≡ map (beside_told table shape) values → meanings_by entity_of items ≡ all_mapped (beside table) (told_items shape values)
items-are table shape [] [] same = refl
items-are table shape [] (v ∷ vs) same = cc
items-are table shape (r ∷ rs) [] same = cc
items-are table shape (r ∷ rs) (v ∷ vs) same =
    let first : item_by entity_of r ≡ beside_told table shape v = cc in
    let rest : map (item_by entity_of) rs ≡ map (beside_told table shape) vs = cc in
    ap (λ m. answer_then m (meanings_by entity_of rs)) first ∙ ap (answer_then (beside_told table shape v)) (items-are table shape rs vs rest)
