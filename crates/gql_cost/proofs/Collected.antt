-- Fields that are collected on an object type, from a set on a type that it can stand for.
use Rattle.std.proofs.Common.{◌≡◌, ℕ, zero, suc, Bool, true, false, ◌&&◌, List, [], ◌∷◌, ◌++◌, Option, Some, None, unwrap_or, refl}
use Rattle.std.specs.List.{AllByRecursion}
use Rattle.gql_ast_base.specs.Names.{Named}
use Rattle.gql_ast_base.specs.TypeParts.{named_type}
use Rattle.gql_document_types.specs.RootFields.{fragment_name}
use Rattle.gql_document_types.specs.Typed.{typed_at, TypedTo, AreTyped, AreFragmentsTyped}
use Rattle.gql_document_types.specs.declared.fragment.Fragment.{Fragment}
use Rattle.gql_document_types.specs.declared.selection.Field.{Field}
use Rattle.gql_document_types.specs.declared.selection.Selection.{Selection, out-Selection}
use Rattle.gql_document_types.specs.declared.selection.Selection.TheOpen.{Selection-F}
use Rattle.gql_exec.specs.Request.{Request}
use Rattle.gql_exec.specs.RequestWorld.{setting_on}
use Rattle.gql_collect.specs.Applies.{applies, applies_if}
use Rattle.gql_collect.specs.Flat.{Shape, when, contents, body, field_of as field_in, opened, flat_within, flat, enough}
use Rattle.gql_collect.specs.Kept.{is_kept}
use Rattle.gql_collect.specs.Setting.{Setting}
use Rattle.gql_schema_types.specs.Entries.{entry}
use Rattle.gql_schema_types.specs.Schemas.{field_of}
use Rattle.gql_schema_types.specs.declared.schema.Schema.{Schema}
use Rattle.gql_schema_types.specs.declared.types.ObjectType.{ObjectType}
use Rattle.gql_valid_laws.specs.Covariant.{Stands}
use Rattle.gql_cost.proofs.Alls.{all-both}

module _ {X : Type 0} (r : Request X) where
  abbrev S : Schema
  S = r.schema

  -- a field of a set whose type the object type can stand for
  pub record IsOn (T : ObjectType) (f : Field) : Type 0 where
    pub parent : List ℕ
    pub stands : Stands S T parent
    pub defined : field_of S parent f.name.text ≡ Some f.definition
    pub below : AreTyped S (named_type f.definition.ty) f.selection_set.selections

  module _ (fragments_typed : AreFragmentsTyped r.schema r.fragments) (T : ObjectType) where
    abbrev s : Setting
    s = setting_on r T

    abbrev AreOn : List Field → Type 0
    AreOn fields = AllByRecursion (IsOn T) fields

    -- selections on a type that it can stand for
    abbrev AreFor : ℕ → List Selection → Type 0
    AreFor n xs = (ty : Named) → Stands S T ty.text → AreTyped S ty xs → AreOn (flat_within s n xs)

    none-on : (n : ℕ) → AreOn (flat_within s n [])
    none-on zero = tt
    none-on (suc n) = tt

    when-on : (n : ℕ) (b : Bool) (xs : List Selection) → (b ≡ true → AreOn (flat_within s n xs)) → AreOn (flat_within s n (when b xs))
    when-on n true xs each = each refl
    when-on n false xs each = none-on n

    and-true : (a b : Bool) → (a && b) ≡ true → b ≡ true
    and-true true b is = is
    and-true false b is = absurd (let e : false ≡ true = is in cc)

    module _ (n : ℕ) (inside : (xs : List Selection) → AreFor n xs) where
      contents-on : (o : Option Fragment) (name : List ℕ) → entry fragment_name name r.fragments ≡ o → AreOn (flat_within s n (contents s o))
      contents-on None name is = none-on n
      contents-on (Some it) name is =
          when-on n (applies S.types T it.selection_set.ty.text) it.selection_set.selections
          (λ stands. inside it.selection_set.selections it.selection_set.ty stands (fragments_typed name it is))

      field-on : (b : Bool) (f : Field) → IsOn T f → AreOn (when b (f ∷ []))
      field-on true f on = (on, tt)
      field-on false f on = tt

      inline-on : (condition : Option Named) (ty : Named) (xs : List Selection) → Stands S T ty.text → AreTyped S (unwrap_or condition ty) xs
          → applies_if S.types T condition ≡ true → AreOn (flat_within s n xs)
      inline-on None ty xs stands typed applied = inside xs ty stands typed
      inline-on (Some name) ty xs stands typed applied = inside xs name applied typed

      shape-on : (k : Shape) (ty : Named) → Stands S T ty.text → ((m : ℕ) → typed_at S (TypedTo S m) ty k) → AreOn (field_in s k ++ flat_within s n (opened s k))
      shape-on (Selection-F.Field it) ty stands typed =
          all-both (IsOn T) (when (is_kept r.variables it.directives) (it ∷ [])) (flat_within s n [])
          (field-on (is_kept r.variables it.directives) it (record { parent = ty.text; stands = stands; defined = (typed 0).0; below = λ m. (typed m).1 }))
          (none-on n)
      shape-on (Selection-F.FragmentSpread it) ty stands typed =
          when-on n (is_kept r.variables it.directives) (body s it.fragment_name.text)
          (λ kept. contents-on (entry fragment_name it.fragment_name.text r.fragments) it.fragment_name.text refl)
      shape-on (Selection-F.InlineFragment it) ty stands typed =
          when-on n (is_kept r.variables it.directives && applies_if S.types T it.type_condition) it.selection_set.selections
          (λ kept. inline-on it.type_condition ty it.selection_set.selections stands typed
          (and-true (is_kept r.variables it.directives) (applies_if S.types T it.type_condition) kept))

      rest-typed : (ty : Named) (x : Selection) (xs : List Selection) → AreTyped S ty (x ∷ xs) → AreTyped S ty xs
      rest-typed ty x xs typed zero = tt
      rest-typed ty x xs typed (suc m) = (typed (suc m)).1

      all-on : (xs : List Selection) (ty : Named) → Stands S T ty.text → AreTyped S ty xs → AreOn (flat_within s (suc n) xs)
      all-on [] ty stands typed = tt
      all-on (x ∷ xs) ty stands typed =
          all-both (IsOn T) (field_in s (out-Selection x) ++ flat_within s n (opened s (out-Selection x))) (flat_within s (suc n) xs)
          (shape-on (out-Selection x) ty stands (λ m. (typed (suc m)).0))
          (all-on xs ty stands (rest-typed ty x xs typed))

    flat-for : (n : ℕ) (xs : List Selection) → AreFor n xs
    flat-for zero xs ty stands typed = tt
    flat-for (suc n) xs ty stands typed = all-on n (flat-for n) xs ty stands typed

    pub flat-on : (xs : List Selection) (ty : Named) → Stands S T ty.text → AreTyped S ty xs → AreOn (flat s xs)
    unfolding flat
    flat-on xs ty stands typed = flat-for (enough s xs) xs ty stands typed
