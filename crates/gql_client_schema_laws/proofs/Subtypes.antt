-- Subtypes in a schema and in one that tells it again.
use Rattle.std.proofs.Common.{◌≡◌, ℕ, Bool, false, not, ◌&&◌, Option, Some, None, List, refl, sym, ap, ◌∙◌, rules}
use Rattle.std.specs.Option.{option_map, option_map_or}
use Rattle.std.specs.Str.{bytes_eq}
use Rattle.gql_ast_base.specs.Names.{Named}
use Rattle.gql_ast_base.specs.TypeParts.{item_type, is_non_null}
use Rattle.gql_ast_base.specs.declared.type_ref.TypeRef.{TypeRef, List as ListOf, NonNullList, the_lemmas}
use Rattle.gql_ast_base.specs.declared.type_ref.TypeRef.TheVariants as ref
use Rattle.gql_ast_laws.specs.Printed.{from_nowhere, unplaced}
use Rattle.gql_schema_rules_parts.specs.Subtypes.{bare_name, is_subname, is_subtype, is_same_type}
use Rattle.gql_client_schema_laws.proofs.References.{each_type, un_Named, un_NonNullNamed, un_List, un_NonNullList, non_null_unplaced, item_unplaced, bare_unplaced}
use Rattle.gql_schema_types.specs.declared.types.ExtendedType.{ExtendedType}

-- a name from any place
placeless : (test : List ℕ → Bool) (o : Option Named) → option_map_or (λ (name : Named). test name.text) (option_map from_nowhere o) false ≡ option_map_or (λ (name : Named). test name.text) o false
placeless test None = refl
placeless test (Some name) = refl

within : (f g : TypeRef → Bool) → ((ty : TypeRef) → f (unplaced ty) ≡ g ty) → (o : Option TypeRef) → option_map_or f (option_map unplaced o) false ≡ option_map_or g o false
within f g h None = refl
within f g h (Some ty) = h ty

alike : (f g : TypeRef → Bool) → ((ty : TypeRef) → f ty ≡ g ty) → (o : Option TypeRef) → option_map_or f o false ≡ option_map_or g o false
alike f g h None = refl
alike f g h (Some ty) = h ty

named_alike : (f g : Named → Bool) → ((name : Named) → f name ≡ g name) → (o : Option Named) → option_map_or f o false ≡ option_map_or g o false
named_alike f g h None = refl
named_alike f g h (Some name) = h name

module _ (types : List ExtendedType) where
  sub_Named : (other : Named) (ty : TypeRef) → is_subtype types (ref.Named other) ty ≡ option_map_or (λ (name : Named). is_subname types name.text other.text) (bare_name ty) false
  sub_Named other ty = search (rules, the_lemmas)

  sub_NonNullNamed : (other : Named) (ty : TypeRef)
      → is_subtype types (ref.NonNullNamed other) ty ≡ (is_non_null ty && option_map_or (λ (name : Named). is_subname types name.text other.text) (bare_name ty) false)
  sub_NonNullNamed other ty = search (rules, the_lemmas)

  sub_List : (item ty : TypeRef) → is_subtype types (ListOf item) ty ≡ option_map_or (is_subtype types item) (item_type ty) false
  sub_List item ty = search (rules, the_lemmas)

  sub_NonNullList : (item ty : TypeRef) → is_subtype types (NonNullList item) ty ≡ (is_non_null ty && option_map_or (is_subtype types item) (item_type ty) false)
  sub_NonNullList item ty = search (rules, the_lemmas)

  abbrev SubUnplaced : TypeRef → Type 0
  SubUnplaced wanted = (ty : TypeRef) → is_subtype types (unplaced wanted) (unplaced ty) ≡ is_subtype types wanted ty

  by_name : (other : Named) (ty : TypeRef) → option_map_or (λ (name : Named). is_subname types name.text other.text) (bare_name (unplaced ty)) false
      ≡ option_map_or (λ (name : Named). is_subname types name.text other.text) (bare_name ty) false
  by_name other ty =
      ap (λ o. option_map_or (λ (name : Named). is_subname types name.text other.text) o false) (bare_unplaced ty)
      ∙ placeless (λ n. is_subname types n other.text) (bare_name ty)

  by_item : (item : TypeRef) → SubUnplaced item → (ty : TypeRef) → option_map_or (is_subtype types (unplaced item)) (item_type (unplaced ty)) false
      ≡ option_map_or (is_subtype types item) (item_type ty) false
  by_item item h ty =
      ap (λ o. option_map_or (is_subtype types (unplaced item)) o false) (item_unplaced ty) ∙ within (is_subtype types (unplaced item)) (is_subtype types item) h (item_type ty)

  sub_unplaced : (wanted : TypeRef) → SubUnplaced wanted
  sub_unplaced =
      each_type SubUnplaced
      (λ other ty. ap (λ w. is_subtype types w (unplaced ty)) (un_Named other) ∙ sub_Named (from_nowhere other) (unplaced ty) ∙ by_name other ty ∙ sym (sub_Named other ty))
      (λ other ty. ap (λ w. is_subtype types w (unplaced ty)) (un_NonNullNamed other) ∙ sub_NonNullNamed (from_nowhere other) (unplaced ty)
      ∙ (λ i. non_null_unplaced ty i && by_name other ty i) ∙ sym (sub_NonNullNamed other ty))
      (λ item h ty. ap (λ w. is_subtype types w (unplaced ty)) (un_List item) ∙ sub_List (unplaced item) (unplaced ty) ∙ by_item item h ty ∙ sym (sub_List item ty))
      (λ item h ty. ap (λ w. is_subtype types w (unplaced ty)) (un_NonNullList item) ∙ sub_NonNullList (unplaced item) (unplaced ty)
      ∙ (λ i. non_null_unplaced ty i && by_item item h ty i) ∙ sym (sub_NonNullList item ty))

module _ (types others : List ExtendedType) (names : (name other : List ℕ) → is_subname types name other ≡ is_subname others name other) where
  abbrev SubAlike : TypeRef → Type 0
  SubAlike wanted = (ty : TypeRef) → is_subtype types wanted ty ≡ is_subtype others wanted ty

  by_bare : (other : Named) (ty : TypeRef) → option_map_or (λ (name : Named). is_subname types name.text other.text) (bare_name ty) false
      ≡ option_map_or (λ (name : Named). is_subname others name.text other.text) (bare_name ty) false
  by_bare other ty =
      named_alike (λ (name : Named). is_subname types name.text other.text) (λ (name : Named). is_subname others name.text other.text)
      (λ name. names name.text other.text) (bare_name ty)

  sub_alike : (wanted : TypeRef) → SubAlike wanted
  sub_alike =
      each_type SubAlike
      (λ other ty. sub_Named types other ty ∙ by_bare other ty ∙ sym (sub_Named others other ty))
      (λ other ty. sub_NonNullNamed types other ty ∙ ap (λ b. is_non_null ty && b) (by_bare other ty) ∙ sym (sub_NonNullNamed others other ty))
      (λ item h ty. sub_List types item ty ∙ alike (is_subtype types item) (is_subtype others item) h (item_type ty) ∙ sym (sub_List others item ty))
      (λ item h ty. sub_NonNullList types item ty ∙ ap (λ b. is_non_null ty && b) (alike (is_subtype types item) (is_subtype others item) h (item_type ty))
      ∙ sym (sub_NonNullList others item ty))

  pub subtype_alike : (wanted again ty fresh : TypeRef) → unplaced wanted ≡ unplaced again → unplaced ty ≡ unplaced fresh
      → is_subtype types wanted ty ≡ is_subtype others again fresh
  subtype_alike wanted again ty fresh one two =
      sym (sub_unplaced types wanted ty) ∙ (λ i. is_subtype types (one i) (two i)) ∙ sub_unplaced types again fresh ∙ sub_alike again fresh

-- ---- the same type

same_Named : (other : Named) (ty : TypeRef)
    → is_same_type (ref.Named other) ty ≡ (not (is_non_null ty) && option_map_or (λ (name : Named). bytes_eq name.text other.text) (bare_name ty) false)
same_Named other ty = search (rules, the_lemmas)

same_NonNullNamed : (other : Named) (ty : TypeRef)
    → is_same_type (ref.NonNullNamed other) ty ≡ (is_non_null ty && option_map_or (λ (name : Named). bytes_eq name.text other.text) (bare_name ty) false)
same_NonNullNamed other ty = search (rules, the_lemmas)

same_List : (item ty : TypeRef) → is_same_type (ListOf item) ty ≡ (not (is_non_null ty) && option_map_or (is_same_type item) (item_type ty) false)
same_List item ty = search (rules, the_lemmas)

same_NonNullList : (item ty : TypeRef) → is_same_type (NonNullList item) ty ≡ (is_non_null ty && option_map_or (is_same_type item) (item_type ty) false)
same_NonNullList item ty = search (rules, the_lemmas)

abbrev SameUnplaced : TypeRef → Type 0
SameUnplaced wanted = (ty : TypeRef) → is_same_type (unplaced wanted) (unplaced ty) ≡ is_same_type wanted ty

by_text : (other : Named) (ty : TypeRef) → option_map_or (λ (name : Named). bytes_eq name.text other.text) (bare_name (unplaced ty)) false
    ≡ option_map_or (λ (name : Named). bytes_eq name.text other.text) (bare_name ty) false
by_text other ty =
    ap (λ o. option_map_or (λ (name : Named). bytes_eq name.text other.text) o false) (bare_unplaced ty) ∙ placeless (λ n. bytes_eq n other.text) (bare_name ty)

by_same : (item : TypeRef) → SameUnplaced item → (ty : TypeRef) → option_map_or (is_same_type (unplaced item)) (item_type (unplaced ty)) false
    ≡ option_map_or (is_same_type item) (item_type ty) false
by_same item h ty =
    ap (λ o. option_map_or (is_same_type (unplaced item)) o false) (item_unplaced ty) ∙ within (is_same_type (unplaced item)) (is_same_type item) h (item_type ty)

same_unplaced : (wanted : TypeRef) → SameUnplaced wanted
same_unplaced =
    each_type SameUnplaced
    (λ other ty. ap (λ w. is_same_type w (unplaced ty)) (un_Named other) ∙ same_Named (from_nowhere other) (unplaced ty)
    ∙ (λ i. not (non_null_unplaced ty i) && by_text other ty i) ∙ sym (same_Named other ty))
    (λ other ty. ap (λ w. is_same_type w (unplaced ty)) (un_NonNullNamed other) ∙ same_NonNullNamed (from_nowhere other) (unplaced ty)
    ∙ (λ i. non_null_unplaced ty i && by_text other ty i) ∙ sym (same_NonNullNamed other ty))
    (λ item h ty. ap (λ w. is_same_type w (unplaced ty)) (un_List item) ∙ same_List (unplaced item) (unplaced ty)
    ∙ (λ i. not (non_null_unplaced ty i) && by_same item h ty i) ∙ sym (same_List item ty))
    (λ item h ty. ap (λ w. is_same_type w (unplaced ty)) (un_NonNullList item) ∙ same_NonNullList (unplaced item) (unplaced ty)
    ∙ (λ i. non_null_unplaced ty i && by_same item h ty i) ∙ sym (same_NonNullList item ty))

pub same_type_alike : (wanted again ty fresh : TypeRef) → unplaced wanted ≡ unplaced again → unplaced ty ≡ unplaced fresh
    → is_same_type wanted ty ≡ is_same_type again fresh
same_type_alike wanted again ty fresh one two = sym (same_unplaced wanted ty) ∙ (λ i. is_same_type (one i) (two i)) ∙ same_unplaced again fresh
