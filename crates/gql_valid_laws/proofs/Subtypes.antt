-- A subtype has as many lists in one another, and names what counts as below.
use Rattle.std.proofs.Common.{rules, ◌≡◌, suc, Bool, true, false, ◌&&◌, Option, Some, None, List, refl, sym, ap, ◌∙◌, subst}
use Rattle.std.specs.Option.{option_map_or}
use Rattle.gql_ast_base.specs.Names.{Named}
use Rattle.gql_ast_base.specs.TypeParts.{named_type, item_type, item_level, is_non_null}
use Rattle.gql_ast_base.specs.declared.type_ref.TypeRef.{TypeRef, roll-TypeRef, out-TypeRef, the_lemmas}
use Rattle.gql_ast_base.specs.declared.type_ref.TypeRef.TheFolds.{ind-TypeRef, map-TypeRef}
use Rattle.gql_ast_base.specs.declared.type_ref.TypeRef.TheOpen.{TypeRef-F}
use Rattle.gql_schema_rules_parts.specs.Subtypes.{bare_name, name_level, is_subname, is_subtype}
use Rattle.gql_schema_types.specs.declared.types.ExtendedType.{ExtendedType}
use Rattle.gql_valid_laws.specs.Covariant.{lists_in}

and-both : (a b : Bool) → (a && b) ≡ true → (a ≡ true) × (b ≡ true)
and-both true b is = (refl, is)
and-both false b is = absurd (let e : false ≡ true = is in cc)

-- ---- one level of a type

rolled : (ty : TypeRef) → roll-TypeRef (out-TypeRef ty) ≡ ty
rolled ty = search (rules, the_lemmas)

lists-named : (name : Named) → lists_in (roll-TypeRef (TypeRef-F.Named name)) ≡ 0
lists-named name = search (rules, the_lemmas)

lists-strict : (name : Named) → lists_in (roll-TypeRef (TypeRef-F.NonNullNamed name)) ≡ 0
lists-strict name = search (rules, the_lemmas)

lists-list : (item : TypeRef) → lists_in (roll-TypeRef (TypeRef-F.List item)) ≡ suc (lists_in item)
lists-list item = search (rules, the_lemmas)

lists-strict-list : (item : TypeRef) → lists_in (roll-TypeRef (TypeRef-F.NonNullList item)) ≡ suc (lists_in item)
lists-strict-list item = search (rules, the_lemmas)

name-named : (name : Named) → named_type (roll-TypeRef (TypeRef-F.Named name)) ≡ name
name-named name = search (rules, the_lemmas)

name-strict : (name : Named) → named_type (roll-TypeRef (TypeRef-F.NonNullNamed name)) ≡ name
name-strict name = search (rules, the_lemmas)

name-list : (item : TypeRef) → named_type (roll-TypeRef (TypeRef-F.List item)) ≡ named_type item
name-list item = search (rules, the_lemmas)

name-strict-list : (item : TypeRef) → named_type (roll-TypeRef (TypeRef-F.NonNullList item)) ≡ named_type item
name-strict-list item = search (rules, the_lemmas)

-- a type that is no list
record IsBare (name : Named) (ty : TypeRef) : Type 0 where
  lists : lists_in ty ≡ 0
  named : named_type ty ≡ name

bare : (ty : TypeRef) (name : Named) → bare_name ty ≡ Some name → IsBare name ty
bare ty name is = subst (IsBare name) (rolled ty) (by (out-TypeRef ty) is)
  where
    by : (k : TypeRef-F TypeRef) → name_level k ≡ Some name → IsBare name (roll-TypeRef k)
    by (TypeRef-F.Named n) is = let same : n ≡ name = (let e : Some n ≡ Some name = is in cc) in record { lists = lists-named n; named = name-named n ∙ same }
    by (TypeRef-F.NonNullNamed n) is = let same : n ≡ name = (let e : Some n ≡ Some name = is in cc) in record { lists = lists-strict n; named = name-strict n ∙ same }
    by (TypeRef-F.List item) is = absurd (let e : None ≡ Some name = is in cc)
    by (TypeRef-F.NonNullList item) is = absurd (let e : None ≡ Some name = is in cc)

-- a type that is a list of items
record IsListOf (item ty : TypeRef) : Type 0 where
  lists : lists_in ty ≡ suc (lists_in item)
  named : named_type ty ≡ named_type item

list-of : (ty item : TypeRef) → item_type ty ≡ Some item → IsListOf item ty
list-of ty item is = subst (IsListOf item) (rolled ty) (by (out-TypeRef ty) is)
  where
    by : (k : TypeRef-F TypeRef) → item_level k ≡ Some item → IsListOf item (roll-TypeRef k)
    by (TypeRef-F.Named n) is = absurd (let e : None ≡ Some item = is in cc)
    by (TypeRef-F.NonNullNamed n) is = absurd (let e : None ≡ Some item = is in cc)
    by (TypeRef-F.List inner) is =
        let same : inner ≡ item = (let e : Some inner ≡ Some item = is in cc) in
        record { lists = lists-list inner ∙ ap (λ t. suc (lists_in t)) same; named = name-list inner ∙ ap named_type same }
    by (TypeRef-F.NonNullList inner) is =
        let same : inner ≡ item = (let e : Some inner ≡ Some item = is in cc) in
        record { lists = lists-strict-list inner ∙ ap (λ t. suc (lists_in t)) same; named = name-strict-list inner ∙ ap named_type same }

module _ (types : List ExtendedType) where
  pub record IsBelow (wanted ty : TypeRef) : Type 0 where
    pub lists : lists_in ty ≡ lists_in wanted
    pub named : is_subname types (named_type ty).text (named_type wanted).text ≡ true

  abbrev Fits : TypeRef → Type 0
  Fits wanted = (ty : TypeRef) → is_subtype types wanted ty ≡ true → IsBelow wanted ty

  -- ---- what is wanted has no lists

  bare-fits : (other : Named) (wanted ty : TypeRef) → IsBare other wanted → option_map_or (λ (name : Named). is_subname types name.text other.text) (bare_name ty) false ≡ true
      → IsBelow wanted ty
  bare-fits other wanted ty of_wanted fits = by (bare_name ty) refl fits
    where
      by : (o : Option Named) → bare_name ty ≡ o → option_map_or (λ (name : Named). is_subname types name.text other.text) o false ≡ true → IsBelow wanted ty
      by None is fits = absurd (let e : false ≡ true = fits in cc)
      by (Some name) is fits =
          let of_ty = bare ty name is in
          record {
            lists = of_ty.lists ∙ sym of_wanted.lists;
            named =
                ap (λ (n : Named). is_subname types n.text (named_type wanted).text) of_ty.named
                ∙ ap (λ (n : Named). is_subname types name.text n.text) of_wanted.named ∙ fits;
          }

  sub-named : (other : Named) (ty : TypeRef) → is_subtype types (roll-TypeRef (TypeRef-F.Named other)) ty
      ≡ option_map_or (λ (name : Named). is_subname types name.text other.text) (bare_name ty) false
  sub-named other ty = search (rules, the_lemmas)

  sub-strict : (other : Named) (ty : TypeRef) → is_subtype types (roll-TypeRef (TypeRef-F.NonNullNamed other)) ty
      ≡ (is_non_null ty && option_map_or (λ (name : Named). is_subname types name.text other.text) (bare_name ty) false)
  sub-strict other ty = search (rules, the_lemmas)

  sub-list : (item ty : TypeRef) → is_subtype types (roll-TypeRef (TypeRef-F.List item)) ty ≡ option_map_or (is_subtype types item) (item_type ty) false
  sub-list item ty = search (rules, the_lemmas)

  sub-strict-list : (item ty : TypeRef) → is_subtype types (roll-TypeRef (TypeRef-F.NonNullList item)) ty
      ≡ (is_non_null ty && option_map_or (is_subtype types item) (item_type ty) false)
  sub-strict-list item ty = search (rules, the_lemmas)

  -- ---- what is wanted is a list

  list-fits : (item wanted ty : TypeRef) → IsListOf item wanted → Fits item → option_map_or (is_subtype types item) (item_type ty) false ≡ true → IsBelow wanted ty
  list-fits item wanted ty of_wanted inside fits = by (item_type ty) refl fits
    where
      by : (o : Option TypeRef) → item_type ty ≡ o → option_map_or (is_subtype types item) o false ≡ true → IsBelow wanted ty
      by None is fits = absurd (let e : false ≡ true = fits in cc)
      by (Some inner) is fits =
          let of_ty = list-of ty inner is in
          let below = inside inner fits in
          record {
            lists = of_ty.lists ∙ ap suc below.lists ∙ sym of_wanted.lists;
            named =
                ap (λ (n : Named). is_subname types n.text (named_type wanted).text) of_ty.named
                ∙ ap (λ (n : Named). is_subname types (named_type inner).text n.text) of_wanted.named ∙ below.named;
          }

  abbrev Child : Type 0
  Child = (ty : TypeRef) × Fits ty

  abbrev plain_level : TypeRef-F Child → TypeRef-F TypeRef
  plain_level (TypeRef-F.Named name) = TypeRef-F.Named name
  plain_level (TypeRef-F.NonNullNamed name) = TypeRef-F.NonNullNamed name
  plain_level (TypeRef-F.List item) = TypeRef-F.List item.0
  plain_level (TypeRef-F.NonNullList item) = TypeRef-F.NonNullList item.0

  plain-map : (y : TypeRef-F Child) → map-TypeRef Child TypeRef (λ e. e.0) y ≡ plain_level y
  plain-map (TypeRef-F.Named name) = refl
  plain-map (TypeRef-F.NonNullNamed name) = refl
  plain-map (TypeRef-F.List item) = refl
  plain-map (TypeRef-F.NonNullList item) = refl

  level-fits : (y : TypeRef-F Child) → Fits (roll-TypeRef (plain_level y))
  level-fits (TypeRef-F.Named name) ty is =
      bare-fits name (roll-TypeRef (TypeRef-F.Named name)) ty (record { lists = lists-named name; named = name-named name }) (sym (sub-named name ty) ∙ is)
  level-fits (TypeRef-F.NonNullNamed name) ty is =
      bare-fits name (roll-TypeRef (TypeRef-F.NonNullNamed name)) ty (record { lists = lists-strict name; named = name-strict name })
      (and-both (is_non_null ty) (option_map_or (λ (n : Named). is_subname types n.text name.text) (bare_name ty) false) (sym (sub-strict name ty) ∙ is)).1
  level-fits (TypeRef-F.List item) ty is =
      list-fits item.0 (roll-TypeRef (TypeRef-F.List item.0)) ty (record { lists = lists-list item.0; named = name-list item.0 }) item.1 (sym (sub-list item.0 ty) ∙ is)
  level-fits (TypeRef-F.NonNullList item) ty is =
      list-fits item.0 (roll-TypeRef (TypeRef-F.NonNullList item.0)) ty (record { lists = lists-strict-list item.0; named = name-strict-list item.0 }) item.1
      (and-both (is_non_null ty) (option_map_or (is_subtype types item.0) (item_type ty) false) (sym (sub-strict-list item.0 ty) ∙ is)).1

  pub below : (wanted ty : TypeRef) → is_subtype types wanted ty ≡ true → IsBelow wanted ty
  below = ind-TypeRef Fits (λ x y is. subst (λ (w : TypeRef-F TypeRef). Fits (roll-TypeRef w)) (sym (plain-map y) ∙ is) (level-fits y))
