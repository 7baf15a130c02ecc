-- What fits a type stands where its name is wanted.
use Rattle.std.proofs.Common.{◌≡◌, ℕ, Bool, true, false, ◌||◌, if◌then◌else◌, List, Option, Some, None, refl, sym, ap, ◌∙◌}
use Rattle.std.specs.Option.{option_and_then}
use Rattle.std.specs.Str.{bytes_eq}
use Rattle.gql_ast_base.specs.Names.{Named}
use Rattle.gql_ast_base.specs.TypeParts.{name_step, named_type}
use Rattle.gql_ast_base.specs.declared.type_ref.TypeRef.{TypeRef, out-TypeRef, fold_out-TypeRef}
use Rattle.gql_ast_base.specs.declared.type_ref.TypeRef as ref
use Rattle.gql_ast_base.specs.declared.type_ref.TypeRef.TheOpen.{TypeRef-F}
use Rattle.gql_collect.proofs.Keys.{text-same, text-itself}
use Rattle.gql_collect.specs.Applies.{has_member, is_listed}
use Rattle.gql_resolvers.specs.Fit.{wrong, unless, object_misfit, object_at, implementing_misfit, member_misfit}
use Rattle.gql_resolvers.specs.Lists.{is_list}
use Rattle.gql_resolvers.specs.Messages as message
use Rattle.gql_resolvers.specs.Resolved.{Misfit}
use Rattle.gql_resolvers.specs.Types.{item_type, item_level}
use Rattle.gql_schema_types.specs.Called.{is_among}
use Rattle.gql_schema_types.specs.Schemas.{object_of, type_named}
use Rattle.gql_schema_types.specs.Types.{type_name, type_called, as_object}
use Rattle.gql_schema_types.specs.declared.schema.Schema.{Schema}
use Rattle.gql_schema_types.specs.declared.types.ExtendedType.{ExtendedType}
use Rattle.gql_schema_types.specs.declared.types.ExtendedType.TheVariants as type
use Rattle.gql_schema_types.specs.declared.types.ObjectType.{ObjectType}
use Rattle.gql_valid_laws.specs.Covariant.{IsObject, Stands}
use Rattle.gql_cost.proofs.Alls.{found-has}

pub named-item : (ty : TypeRef) → named_type (item_type ty) ≡ named_type ty
named-item ty = by (out-TypeRef ty) refl
  where
    by : (k : TypeRef-F TypeRef) → out-TypeRef ty ≡ k → named_type (item_level ty k) ≡ named_type ty
    by (TypeRef-F.Named name) is = refl
    by (TypeRef-F.NonNullNamed name) is = refl
    by (TypeRef-F.List item) is =
        sym (fold_out-TypeRef Named name_step ty ∙ ap (λ (k : TypeRef-F TypeRef). name_step (ref.map-TypeRef TypeRef Named named_type k)) is)
    by (TypeRef-F.NonNullList item) is =
        sym (fold_out-TypeRef Named name_step ty ∙ ap (λ (k : TypeRef-F TypeRef). name_step (ref.map-TypeRef TypeRef Named named_type k)) is)

-- ---- what fits a type stands where its name is wanted

pub by_unless : (b : Bool) (m : Misfit) → unless b m ≡ None → b ≡ true
by_unless true m fits = refl
by_unless false m fits = absurd (let e : Some m ≡ None = fits in cc)

pub or-true : (a b : Bool) → b ≡ true → (a || b) ≡ true
or-true true b is = refl
or-true false b is = is

pub or-first : (a b : Bool) → a ≡ true → (a || b) ≡ true
or-first true b is = refl
or-first false b is = absurd (let e : false ≡ true = is in cc)

module _ (schema : Schema) where
  -- an object type is called as it is looked up
  pub called : (found : List ℕ) (V : ObjectType) → object_of schema found ≡ Some V → found ≡ V.name.text
  called found V is = by (type_called found schema.types) refl is
    where
      by : (o : Option ExtendedType) → type_called found schema.types ≡ o → option_and_then as_object o ≡ Some V → found ≡ V.name.text
      by None at e = absurd (let g : None ≡ Some V = e in cc)
      by (Some (type.Object it)) at e =
          let same : it ≡ V = (let g : Some it ≡ Some V = e in cc) in
          let has : bytes_eq found it.name.text ≡ true = found-has (λ (t : ExtendedType). bytes_eq found (type_name t).text) schema.types (type.Object it) at in
          text-same found it.name.text has ∙ ap (λ (o : ObjectType). o.name.text) same
      by (Some (type.Scalar it)) at e = absurd (let g : None ≡ Some V = e in cc)
      by (Some (type.Interface it)) at e = absurd (let g : None ≡ Some V = e in cc)
      by (Some (type.Union it)) at e = absurd (let g : None ≡ Some V = e in cc)
      by (Some (type.Enum it)) at e = absurd (let g : None ≡ Some V = e in cc)
      by (Some (type.InputObject it)) at e = absurd (let g : None ≡ Some V = e in cc)

  -- it stands for the type that it is looked up as
  pub stands-own : (found : List ℕ) (V : ObjectType) → object_of schema found ≡ Some V → Stands schema V found
  stands-own found V is =
      or-first (bytes_eq found V.name.text)
      (is_listed (type_called found schema.types) found V.implements_interfaces || has_member (type_called found schema.types) V.name.text)
      (ap (λ name. bytes_eq name V.name.text) (called found V is) ∙ text-itself V.name.text)

  pub is-object : (found : List ℕ) (V : ObjectType) → object_of schema found ≡ Some V → IsObject schema V
  is-object found V is = ap (object_of schema) (sym (called found V is)) ∙ is

  module _ (found : List ℕ) (V : ObjectType) (is : object_of schema found ≡ Some V) where
    stands-at : (o : Option ExtendedType) (name : List ℕ) → type_called name schema.types ≡ o → object_at schema o name found ≡ None → Stands schema V name
    stands-at None name at fits = cc
    stands-at (Some (type.Object it)) name at fits =
        let same : found ≡ name = text-same found name (by_unless (bytes_eq found name) (wrong (message.other_object found name)) fits) in
        let own : bytes_eq name V.name.text ≡ true = ap (λ n. bytes_eq n V.name.text) (sym same ∙ called found V is) ∙ text-itself V.name.text in
        or-first (bytes_eq name V.name.text) (is_listed (type_called name schema.types) name V.implements_interfaces || has_member (type_called name schema.types) V.name.text) own
    stands-at (Some (type.Interface it)) name at fits =
        let e : implementing_misfit (Some V) name found ≡ None = sym (ap (λ o. implementing_misfit o name found) is) ∙ fits in
        let among : is_among name V.implements_interfaces ≡ true = by_unless (is_among name V.implements_interfaces) (wrong (message.no_implementer found name)) e in
        let lists : is_listed (type_called name schema.types) name V.implements_interfaces ≡ true =
        ap (λ (o : Option ExtendedType). is_listed o name V.implements_interfaces) at ∙ among in
        or-true (bytes_eq name V.name.text) (is_listed (type_called name schema.types) name V.implements_interfaces || has_member (type_called name schema.types) V.name.text)
        (or-first (is_listed (type_called name schema.types) name V.implements_interfaces) (has_member (type_called name schema.types) V.name.text) lists)
    stands-at (Some (type.Union it)) name at fits =
        let e : member_misfit (Some V) it.members name found ≡ None = sym (ap (λ o. member_misfit o it.members name found) is) ∙ fits in
        let member : is_among found it.members ≡ true = by_unless (is_among found it.members) (wrong (message.no_member found name)) e in
        let has : has_member (type_called name schema.types) V.name.text ≡ true =
        ap (λ (o : Option ExtendedType). has_member o V.name.text) at ∙ ap (λ n. is_among n it.members) (sym (called found V is)) ∙ member in
        or-true (bytes_eq name V.name.text) (is_listed (type_called name schema.types) name V.implements_interfaces || has_member (type_called name schema.types) V.name.text)
        (or-true (is_listed (type_called name schema.types) name V.implements_interfaces) (has_member (type_called name schema.types) V.name.text) has)
    stands-at (Some (type.InputObject it)) name at fits = cc
    stands-at (Some (type.Scalar it)) name at fits = cc
    stands-at (Some (type.Enum it)) name at fits = cc

    pub stands-fit : (ty : TypeRef) → object_misfit schema ty found ≡ None → Stands schema V (named_type ty).text
    stands-fit ty fits = by (is_list ty) fits
      where
        by : (b : Bool) → (if b then Some (wrong (message.other_at_list ty)) else object_at schema (type_named schema ty) (named_type ty).text found) ≡ None
            → Stands schema V (named_type ty).text
        by true e = absurd (let g : Some (wrong (message.other_at_list ty)) ≡ None = e in cc)
        by false e = stands-at (type_named schema ty) (named_type ty).text refl e
