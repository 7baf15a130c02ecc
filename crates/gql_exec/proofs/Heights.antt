-- How many lists are at most inside one another in the fields of a schema.
use Rattle.std.proofs.Common.{rules, arith, ◌≡◌, ℕ, ◌≤◌, max, Bool, true, false, cond, if◌then◌else◌, ◌&&◌, List, [], ◌∷◌, Option, Some, None, refl, ap, ◌∙◌, codes}
use Rattle.std.specs.List.{find}
use Rattle.std.specs.Option.{option_or, option_and_then}
use Rattle.std.specs.Str.{bytes_eq}
use Rattle.std.proofs.Math.Nat.{le-max_left, le-max_right}
use Rattle.gql_ast_base.specs.Names.{Named}
use Rattle.gql_ast.specs.declared.field_definition.FieldDefinition.{FieldDefinition}
use Rattle.gql_ast_base.specs.declared.type_ref.TypeRef.{the_lemmas}
use Rattle.gql_ast_base.specs.declared.type_ref.TypeRef.TheVariants as type
use Rattle.gql_schema_types.specs.Entries.{entry, is_called}
use Rattle.gql_schema_types.specs.MetaFields.{named, type_name_field, schema_field, type_field}
use Rattle.gql_schema_types.specs.Schemas.{is_query_root, meta_field, field_on, field_of}
use Rattle.gql_schema_types.specs.Types.{type_name, type_called, is_composite, fields_of, field_name}
use Rattle.gql_schema_types.specs.declared.schema.Schema.{Schema}
use Rattle.gql_schema_types.specs.declared.types.ExtendedType.{ExtendedType}
use Rattle.gql_resolvers.proofs.Height.{height}

module _ {A : Type 0} (f : A → ℕ) where
  abbrev most : List A → ℕ
  most [] = 0
  most (x ∷ xs) = max (f x) (most xs)

  most-found : (p : A → Bool) (xs : List A) (x : A) → find p xs ≡ Some x → f x ≤ most xs
  most-found p [] x is = absurd (let e : None ≡ Some x = is in cc)
  most-found p (y ∷ ys) x is = by (p y) is (most-found p ys x)
    where
      by : (b : Bool) → cond b (Some y) (find p ys) ≡ Some x → (find p ys ≡ Some x → f x ≤ most ys) → f x ≤ most (y ∷ ys)
      by true e rest = let same : y ≡ x = (let g : Some y ≡ Some x = e in cc) in omega (arith, ap f same, le-max_left (f y) (most ys))
      by false e rest = omega (arith, rest e, le-max_right (f y) (most ys))

abbrev fields_top : List FieldDefinition → ℕ
fields_top = most (λ d. height d.ty)

abbrev pub top : Schema → ℕ
top schema = most (λ ty. fields_top (fields_of ty)) schema.types

flat-named : (name : Named) → height (type.Named name) ≡ 0
flat-named name = search (rules, the_lemmas)

flat-non_null : (name : Named) → height (type.NonNullNamed name) ≡ 0
flat-non_null name = search (rules, the_lemmas)

meta-flat : (composite root : Bool) (a b c : Bool) (d : FieldDefinition)
    → (if composite && a then Some type_name_field else (if root && b then Some schema_field else (if root && c then Some type_field else None))) ≡ Some d → height d.ty ≤ 0
meta-flat composite root a b c d is = by (composite && a) (root && b) (root && c) is
  where
    here : (e : FieldDefinition) → height e.ty ≡ 0 → Some e ≡ Some d → height d.ty ≤ 0
    here e flat is = let same : e ≡ d = cc in omega (arith, flat, ap (λ (x : FieldDefinition). height x.ty) same)

    by : (x y z : Bool) → (if x then Some type_name_field else (if y then Some schema_field else (if z then Some type_field else None))) ≡ Some d → height d.ty ≤ 0
    by true y z e = here type_name_field (flat-non_null (named (codes "String"))) e
    by false true z e = here schema_field (flat-non_null (named (codes "__Schema"))) e
    by false false true e = here type_field (flat-named (named (codes "__Type"))) e
    by false false false e = absurd (let f : None ≡ Some d = e in cc)

-- no field of a schema is higher
pub field-top : (schema : Schema) (T f : List ℕ) (d : FieldDefinition) → field_of schema T f ≡ Some d → height d.ty ≤ top schema
field-top schema T f d is = by_type (type_called T schema.types) refl is
  where
    by_field : (ty : ExtendedType) (o : Option FieldDefinition) → entry field_name f (fields_of ty) ≡ o
        → option_or o (meta_field (is_composite ty) (is_query_root schema.schema_definition T) f) ≡ Some d → height d.ty ≤ fields_top (fields_of ty)
    by_field ty None own e =
        let low = meta-flat (is_composite ty) (is_query_root schema.schema_definition T) (bytes_eq f (codes "__typename")) (bytes_eq f (codes "__schema")) (bytes_eq f (codes "__type")) d e in
        omega (arith, low)
    by_field ty (Some x) own e =
        let same : x ≡ d = cc in
        most-found (λ d. height d.ty) (is_called field_name f) (fields_of ty) d (own ∙ ap Some same)

    by_type : (o : Option ExtendedType) → type_called T schema.types ≡ o → option_and_then (λ ty. field_on schema.schema_definition ty T f) o ≡ Some d → height d.ty ≤ top schema
    by_type None at e = absurd (let g : None ≡ Some d = e in cc)
    by_type (Some ty) at e =
        omega (
          arith,
          by_field ty (entry field_name f (fields_of ty)) refl e,
          most-found (λ ty. fields_top (fields_of ty)) (is_called type_name T) schema.types ty at,
        )
