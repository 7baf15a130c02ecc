-- References to types, places aside.
use Rattle.std.proofs.Common.{◌≡◌, refl, sym, ap, ◌∙◌, subst, rules}
use Rattle.std.specs.Option.{option_map}
use Rattle.gql_ast_base.specs.Names.{Named}
use Rattle.gql_ast_base.specs.TypeParts.{named_type, item_type, item_level, is_non_null, non_null_level}
use Rattle.gql_ast_base.specs.declared.type_ref.TypeRef.{TypeRef, roll-TypeRef, out-TypeRef, List as ListOf, NonNullList, the_lemmas}
use Rattle.gql_ast_base.specs.declared.type_ref.TypeRef.TheFolds.{ind-TypeRef, map-TypeRef}
use Rattle.gql_ast_base.specs.declared.type_ref.TypeRef.TheOpen.{TypeRef-F}
use Rattle.gql_ast_base.specs.declared.type_ref.TypeRef.TheVariants as ref
use Rattle.gql_ast_laws.specs.Printed.{from_nowhere, unplaced}
use Rattle.gql_schema_rules_parts.specs.Subtypes.{bare_name, name_level}

-- ---- induction

module _ (P : TypeRef → Type 0) (named : (name : Named) → P (ref.Named name)) (non_null : (name : Named) → P (ref.NonNullNamed name))
    (list : (item : TypeRef) → P item → P (ListOf item)) (non_null_list : (item : TypeRef) → P item → P (NonNullList item)) where
  abbrev Child : Type 0
  Child = (ty : TypeRef) × P ty

  abbrev plain_level : TypeRef-F Child → TypeRef-F TypeRef
  plain_level (TypeRef-F.Named name) = TypeRef-F.Named name
  plain_level (TypeRef-F.NonNullNamed name) = TypeRef-F.NonNullNamed name
  plain_level (TypeRef-F.List item) = TypeRef-F.List item.0
  plain_level (TypeRef-F.NonNullList item) = TypeRef-F.NonNullList item.0

  plain_map : (y : TypeRef-F Child) → map-TypeRef Child TypeRef (λ e. e.0) y ≡ plain_level y
  plain_map (TypeRef-F.Named name) = refl
  plain_map (TypeRef-F.NonNullNamed name) = refl
  plain_map (TypeRef-F.List item) = refl
  plain_map (TypeRef-F.NonNullList item) = refl

  level : (y : TypeRef-F Child) → P (roll-TypeRef (plain_level y))
  unfolding roll-TypeRef denote.Hole.Carrier.roll
  level (TypeRef-F.Named name) = named name
  level (TypeRef-F.NonNullNamed name) = non_null name
  level (TypeRef-F.List item) = list item.0 item.1
  level (TypeRef-F.NonNullList item) = non_null_list item.0 item.1

  pub each_type : (ty : TypeRef) → P ty
  each_type = ind-TypeRef P (λ x y is. subst (λ (w : TypeRef-F TypeRef). P (roll-TypeRef w)) (sym (plain_map y) ∙ is) (level y))

-- ---- one level

pub un_Named : (name : Named) → unplaced (ref.Named name) ≡ ref.Named (from_nowhere name)
un_Named name = search (rules, the_lemmas)

pub un_NonNullNamed : (name : Named) → unplaced (ref.NonNullNamed name) ≡ ref.NonNullNamed (from_nowhere name)
un_NonNullNamed name = search (rules, the_lemmas)

pub un_List : (item : TypeRef) → unplaced (ListOf item) ≡ ListOf (unplaced item)
un_List item = search (rules, the_lemmas)

pub un_NonNullList : (item : TypeRef) → unplaced (NonNullList item) ≡ NonNullList (unplaced item)
un_NonNullList item = search (rules, the_lemmas)

pub out_Named : (name : Named) → out-TypeRef (ref.Named name) ≡ TypeRef-F.Named name
out_Named name = search (rules, the_lemmas)

pub out_NonNullNamed : (name : Named) → out-TypeRef (ref.NonNullNamed name) ≡ TypeRef-F.NonNullNamed name
out_NonNullNamed name = search (rules, the_lemmas)

out_List : (item : TypeRef) → out-TypeRef (ListOf item) ≡ TypeRef-F.List item
out_List item = search (rules, the_lemmas)

out_NonNullList : (item : TypeRef) → out-TypeRef (NonNullList item) ≡ TypeRef-F.NonNullList item
out_NonNullList item = search (rules, the_lemmas)

abbrev pub unplaced_level : TypeRef-F TypeRef → TypeRef-F TypeRef
unplaced_level (TypeRef-F.Named name) = TypeRef-F.Named (from_nowhere name)
unplaced_level (TypeRef-F.NonNullNamed name) = TypeRef-F.NonNullNamed (from_nowhere name)
unplaced_level (TypeRef-F.List item) = TypeRef-F.List (unplaced item)
unplaced_level (TypeRef-F.NonNullList item) = TypeRef-F.NonNullList (unplaced item)

abbrev OutUnplaced : TypeRef → Type 0
OutUnplaced ty = out-TypeRef (unplaced ty) ≡ unplaced_level (out-TypeRef ty)

pub out_unplaced : (ty : TypeRef) → out-TypeRef (unplaced ty) ≡ unplaced_level (out-TypeRef ty)
out_unplaced =
    each_type OutUnplaced
    (λ name. ap out-TypeRef (un_Named name) ∙ out_Named (from_nowhere name) ∙ sym (ap unplaced_level (out_Named name)))
    (λ name. ap out-TypeRef (un_NonNullNamed name) ∙ out_NonNullNamed (from_nowhere name) ∙ sym (ap unplaced_level (out_NonNullNamed name)))
    (λ item within. ap out-TypeRef (un_List item) ∙ out_List (unplaced item) ∙ sym (ap unplaced_level (out_List item)))
    (λ item within. ap out-TypeRef (un_NonNullList item) ∙ out_NonNullList (unplaced item) ∙ sym (ap unplaced_level (out_NonNullList item)))

-- ---- what is asked of a reference

same_non_null : (y : TypeRef-F TypeRef) → non_null_level (unplaced_level y) ≡ non_null_level y
same_non_null (TypeRef-F.Named name) = refl
same_non_null (TypeRef-F.NonNullNamed name) = refl
same_non_null (TypeRef-F.List item) = refl
same_non_null (TypeRef-F.NonNullList item) = refl

same_item : (y : TypeRef-F TypeRef) → item_level (unplaced_level y) ≡ option_map unplaced (item_level y)
same_item (TypeRef-F.Named name) = refl
same_item (TypeRef-F.NonNullNamed name) = refl
same_item (TypeRef-F.List item) = refl
same_item (TypeRef-F.NonNullList item) = refl

same_bare : (y : TypeRef-F TypeRef) → name_level (unplaced_level y) ≡ option_map from_nowhere (name_level y)
same_bare (TypeRef-F.Named name) = refl
same_bare (TypeRef-F.NonNullNamed name) = refl
same_bare (TypeRef-F.List item) = refl
same_bare (TypeRef-F.NonNullList item) = refl

pub non_null_unplaced : (ty : TypeRef) → is_non_null (unplaced ty) ≡ is_non_null ty
non_null_unplaced ty = ap non_null_level (out_unplaced ty) ∙ same_non_null (out-TypeRef ty)

pub item_unplaced : (ty : TypeRef) → item_type (unplaced ty) ≡ option_map unplaced (item_type ty)
item_unplaced ty = ap item_level (out_unplaced ty) ∙ same_item (out-TypeRef ty)

pub bare_unplaced : (ty : TypeRef) → bare_name (unplaced ty) ≡ option_map from_nowhere (bare_name ty)
bare_unplaced ty = ap name_level (out_unplaced ty) ∙ same_bare (out-TypeRef ty)

-- ---- the type that it names

pub name_Named : (name : Named) → named_type (ref.Named name) ≡ name
name_Named name = search (rules, the_lemmas)

pub name_NonNullNamed : (name : Named) → named_type (ref.NonNullNamed name) ≡ name
name_NonNullNamed name = search (rules, the_lemmas)

name_List : (item : TypeRef) → named_type (ListOf item) ≡ named_type item
name_List item = search (rules, the_lemmas)

name_NonNullList : (item : TypeRef) → named_type (NonNullList item) ≡ named_type item
name_NonNullList item = search (rules, the_lemmas)

abbrev SameName : TypeRef → Type 0
SameName ty = (named_type (unplaced ty)).text ≡ (named_type ty).text

pub name_unplaced : (ty : TypeRef) → (named_type (unplaced ty)).text ≡ (named_type ty).text
name_unplaced =
    each_type SameName
    (λ name. ap (λ t. (named_type t).text) (un_Named name) ∙ ap (λ n. n.text) (name_Named (from_nowhere name)) ∙ sym (ap (λ n. n.text) (name_Named name)))
    (λ name. ap (λ t. (named_type t).text) (un_NonNullNamed name) ∙ ap (λ n. n.text) (name_NonNullNamed (from_nowhere name)) ∙ sym (ap (λ n. n.text) (name_NonNullNamed name)))
    (λ item same. ap (λ t. (named_type t).text) (un_List item) ∙ ap (λ n. n.text) (name_List (unplaced item)) ∙ same ∙ sym (ap (λ n. n.text) (name_List item)))
    (λ item same. ap (λ t. (named_type t).text) (un_NonNullList item) ∙ ap (λ n. n.text) (name_NonNullList (unplaced item)) ∙ same ∙ sym (ap (λ n. n.text) (name_NonNullList item)))

-- ---- of two that are the same, places aside

module _ (ty again : TypeRef) (same : unplaced ty ≡ unplaced again) where
  pub non_null_alike : is_non_null ty ≡ is_non_null again
  non_null_alike = sym (non_null_unplaced ty) ∙ ap is_non_null same ∙ non_null_unplaced again

  pub item_alike : option_map unplaced (item_type ty) ≡ option_map unplaced (item_type again)
  item_alike = sym (item_unplaced ty) ∙ ap item_type same ∙ item_unplaced again

  pub name_alike : (named_type ty).text ≡ (named_type again).text
  name_alike = sym (name_unplaced ty) ∙ ap (λ t. (named_type t).text) same ∙ name_unplaced again

  pub level_alike : unplaced_level (out-TypeRef ty) ≡ unplaced_level (out-TypeRef again)
  level_alike = sym (out_unplaced ty) ∙ ap out-TypeRef same ∙ out_unplaced again
