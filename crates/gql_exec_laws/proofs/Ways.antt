-- The ways to the objects of a list.
use Rattle.std.proofs.Common.{◌≡◌, ◌⊎◌, inl, inr, ℕ, zero, suc, List, [], ◌∷◌, None, Some, Option, refl, sym, ap, ◌∙◌, subst, codes}
use Rattle.std.specs.List.{filter}
use Rattle.gql_ast_base.specs.declared.type_ref.TypeRef.{TypeRef}
use Rattle.gql_collect.specs.Flat.{flat_sets}
use Rattle.gql_collect.specs.Groups.{groups_of, is_defined}
use Rattle.gql_document_types.specs.declared.selection.Selection.{Selection}
use Rattle.gql_schema_types.specs.declared.types.ObjectType.{ObjectType}
use Rattle.gql_resolvers.specs.Resolved.{gives_object, gives_list}
use Rattle.gql_resolvers.specs.Types.{item_type}
use Rattle.gql_resolvers.specs.World.{World, key_of}
use Rattle.gql_exec.specs.Group.{Group, groups_from}
use Rattle.gql_exec.specs.Opened.{Way, AnyGroup, Brings, AnyGives, Opens}
use Rattle.gql_exec.specs.bridge.Opened.{Turns}
use Rattle.gql_exec.specs.RequestWorld.{plain_world, setting_on}
use Rattle.gql_exec_laws.specs.Example.{Thing, root, inner}
use Rattle.gql_exec_laws.specs.Examples.{y}
use Rattle.gql_exec_laws.specs.Opening.{l, objects_query, item, things, objects, within_items, of_items, IsOpened, to_items}
use Rattle.gql_exec_laws.specs.Parts.{field_at}
use Rattle.gql_exec_laws.proofs.Computed.{computed}
use Rattle.gql_exec_laws.proofs.Opened.{selected, fitting}

abbrev list_group : Group
list_group = record { first = field_at 2 l within_items; pieces = within_items ∷ [] }

abbrev leaf_group : Group
leaf_group = record { first = field_at 6 y []; pieces = [] ∷ [] }

module _ (n : ℕ) where
  abbrev w : World Thing ObjectType Group (List (List Selection))
  w = plain_world (objects n)

  fields_root : flat_sets (setting_on (objects n) objects_query) (of_items ∷ []) ≡ field_at 2 l within_items ∷ []
  unfolding computed
  fields_root = simp selected

  fields_item : flat_sets (setting_on (objects n) item) (within_items ∷ []) ≡ field_at 6 y [] ∷ []
  unfolding computed
  fields_item = simp selected

  groups_root : w.groups objects_query (of_items ∷ []) ≡ list_group ∷ []
  groups_root = ap (λ fs. groups_from (filter (is_defined (objects n).schema objects_query) (groups_of fs))) fields_root

  groups_item : w.groups item (within_items ∷ []) ≡ leaf_group ∷ []
  groups_item = ap (λ fs. groups_from (filter (is_defined (objects n).schema item) (groups_of fs))) fields_item

  fits_list : w.misfit (w.type_at objects_query list_group) (gives_list (things n)) ≡ None
  fits_list = simp fitting

  fits_item : w.misfit (item_type (w.type_at objects_query list_group)) (gives_object inner) ≡ None
  fits_item = simp fitting

  -- nothing is opened from an item but the item itself
  at_item : (way : Way ObjectType) → Opens w way item inner (within_items ∷ []) → way ≡ []
  at_item [] opens = refl
  at_item (step ∷ way) opens =
      absurd (elim (subst (AnyGroup (λ g. (key_of w g ≡ step.0) × Brings w (Turns w (w.below g) (step.1, way)) (w.type_at item g) (w.asks item inner g))) groups_item opens) [
        | inl here ↦ here.1
        | inr none ↦ none
      ])

  -- what some object of the list has, the one object has
  any_thing : (P : Thing → Type 0) (type : TypeRef) (m : ℕ) → AnyGives w P type (things m) → P inner
  any_thing P type zero gives = absurd gives
  any_thing P type (suc m) gives = elim gives [ inl here ↦ here.1 | inr there ↦ any_thing P type m there ]

  turn_way : (key : List ℕ) (U : ObjectType) (way : Way ObjectType) → codes "l" ≡ key → Turns w (within_items ∷ []) (U, way) inner
      → (key, U) ∷ way ≡ to_items
  turn_way key U way is turns =
      let same : item ≡ U = ap (λ o. from o) turns.0 in
      let opens : Opens w way item inner (within_items ∷ []) = subst (λ V. Opens w way V inner (within_items ∷ [])) (sym same) turns.1 in
      ap (λ k. (k, U) ∷ way) (sym is) ∙ ap (λ V. (codes "l", V) ∷ way) (sym same) ∙ ap (λ on. (codes "l", item) ∷ on) (at_item way opens)
    where
      from : Option ObjectType → ObjectType
      from None = item
      from (Some V) = V

  pub only_ways : (way : Way ObjectType) → IsOpened n way → (way ≡ []) ⊎ (way ≡ to_items)
  only_ways [] opens = inl refl
  only_ways (step ∷ way) opens =
      elim (subst (AnyGroup (λ g. (key_of w g ≡ step.0) × Brings w (Turns w (w.below g) (step.1, way)) (w.type_at objects_query g) (w.asks objects_query root g))) groups_root opens) [
        | inl here ↦ inr (turn_way step.0 step.1 way here.0 (any_thing (Turns w (within_items ∷ []) (step.1, way)) (item_type (w.type_at objects_query list_group)) n here.1.1))
        | inr none ↦ absurd none
      ]

pub none_opened : IsOpened 0 to_items → ⊥
none_opened opens =
    elim (subst (AnyGroup (λ g. (key_of (w 0) g ≡ codes "l")
    × Brings (w 0) (Turns (w 0) ((w 0).below g) (item, [])) ((w 0).type_at objects_query g) ((w 0).asks objects_query root g)))
    (groups_root 0) opens) [
      | inl here ↦ here.1.1
      | inr none ↦ none
    ]

pub opened_way : (n : ℕ) → IsOpened (suc n) to_items
opened_way n =
    subst (AnyGroup (λ g. (key_of (w (suc n)) g ≡ codes "l")
    × Brings (w (suc n)) (Turns (w (suc n)) ((w (suc n)).below g) (item, [])) ((w (suc n)).type_at objects_query g) ((w (suc n)).asks objects_query root g)))
    (sym (groups_root (suc n)))
    (inl (refl, (fits_list (suc n), inl (fits_item (suc n), (refl, tt)))))
