-- In a document of which no conflict is told no compared pair of fields breaks the rule.
use Rattle.std.proofs.Common.{◌≡◌, ℕ, Bool, true, false, not, cond, ◌&&◌, ◌||◌, ◌==◌, List, [], ◌∷◌, ◌++◌, Option, Some, None, refl, sym, ap, ◌∙◌, inl, inr, ◌⊎◌}
use Rattle.std.specs.List.{Contains, flat_map, slice_get}
use Rattle.std.specs.Option.{option_and_then, option_map_or}
use Rattle.std.specs.Prelude.{is_some}
use Rattle.std.specs.Str.{bytes_eq}
use Rattle.std.proofs.lemmas.Bool.{eqb-true}
use Rattle.gql_collect.specs.Applies.{is_listed, has_member}
use Rattle.gql_collect.proofs.Keys.{text-same, text-itself}
use Rattle.gql_document_types.specs.declared.document.ExecutableDocument.{ExecutableDocument}
use Rattle.gql_graph.proofs.Flooded.{Contains-cons_cases, none_contained}
use Rattle.gql_graph.specs.Pairs.{IsCompared}
use Rattle.gql_graph.specs.declared.pair.Pair.{Pair}
use Rattle.gql_rules_merging.specs.ConflictingFieldName.{names_conflict}
use Rattle.gql_rules_merging.specs.ConflictingFieldArgument.{arguments_conflict}
use Rattle.gql_rules_merging.specs.ConflictingFieldType.{types_conflict}
use Rattle.gql_rules_merging.specs.FieldSelectionMerging.{conflict, conflict_of, are_apart, is_object_name, is_broken, below, below_fields, differ, sets_of, AreConflicts}
use Rattle.gql_rules_merging.specs.Numbering.{Selected, numbered}
use Rattle.gql_schema_types.specs.Types.{type_called, as_object}
use Rattle.gql_schema_types.specs.declared.schema.Schema.{Schema}
use Rattle.gql_schema_types.specs.declared.types.ExtendedType.{ExtendedType}
use Rattle.gql_schema_types.specs.declared.types.ExtendedType.TheVariants as type
use Rattle.gql_schema_types.specs.declared.types.ObjectType.{ObjectType}
use Rattle.gql_valid_laws.specs.Covariant.{Stands}

-- ---- truth values

or-neither : (a b : Bool) → (a || b) ≡ false → (a ≡ false) × (b ≡ false)
or-neither true b is = absurd (let e : true ≡ false = is in cc)
or-neither false b is = (refl, is)

not-false : (b : Bool) → not b ≡ false → b ≡ true
not-false true is = refl
not-false false is = absurd (let e : true ≡ false = is in cc)

and-both : (a b : Bool) → (a && b) ≡ true → (a ≡ true) × (b ≡ true)
and-both true b is = (refl, is)
and-both false b is = absurd (let e : false ≡ true = is in cc)

-- ---- an empty list of all

nothing-appended : {A : Type 0} (xs ys : List A) → [] ≡ xs ++ ys → ([] ≡ xs) × ([] ≡ ys)
nothing-appended [] ys is = (refl, is)
nothing-appended (x ∷ xs) ys is = absurd (let e : [] ≡ x ∷ (xs ++ ys) = is in cc)

empty-at : {A B : Type 0} (f : A → List B) (xs : List A) → [] ≡ flat_map f xs → (x : A) → Contains xs x → [] ≡ f x
empty-at f [] is x c = absurd (none_contained x c)
empty-at f (y ∷ xs) is x c =
    let parts = nothing-appended (f y) (flat_map f xs) is in
    by parts.0 (λ later. empty-at f xs parts.1 x later) (Contains-cons_cases y xs x c)
  where
    by : [] ≡ f y → (Contains xs x → [] ≡ f x) → (y ≡ x) ⊎ Contains xs x → [] ≡ f x
    by here later (inl same) = here ∙ ap f same
    by here later (inr among) = later among

module _ (types : List ExtendedType) (document : ExecutableDocument) (none : AreConflicts types document []) where
  abbrev fields : List Selected
  fields = (numbered document).fields

  told-one : (p : Pair) (x y : Selected) → slice_get fields p.first ≡ Some x → slice_get fields p.second ≡ Some y
      → conflict_of types fields p ≡ conflict types x y ∷ []
  told-one p x y first second =
      ap (λ o. option_map_or (λ one. option_map_or (λ other. conflict types one other ∷ []) (slice_get fields p.second) []) o []) first
      ∙ ap (λ o. option_map_or (λ other. conflict types x other ∷ []) o []) second

  pub below-is : (p : Pair) (x y : Selected) → slice_get fields p.first ≡ Some x → slice_get fields p.second ≡ Some y
      → below types fields p ≡ below_fields types p.in_full x y
  below-is p x y first second =
      ap (λ o. option_and_then (λ one. option_and_then (below_fields types p.in_full one) (slice_get fields p.second)) o) first
      ∙ ap (option_and_then (below_fields types p.in_full x)) second

  -- a compared pair of fields that are there is none that breaks the rule
  pub unbroken : (p : Pair) (x y : Selected) → IsCompared (sets_of types (numbered document)) p → slice_get fields p.first ≡ Some x → slice_get fields p.second ≡ Some y
      → is_broken types p.in_full x y ≡ false
  unbroken p x y compared first second = by (is_broken types p.in_full x y) refl
    where
      told : below types fields p ≡ None → ⊥
      told breaks =
          let listed = none.all p compared breaks in
          let q = listed.0 in
          let same = and-both (p.first == q.first) (p.second == q.second) listed.2 in
          let at_first = ap (slice_get fields) (sym (eqb-true p.first q.first same.0)) ∙ first in
          let at_second = ap (slice_get fields) (sym (eqb-true p.second q.second same.1)) ∙ second in
          let e : [] ≡ conflict types x y ∷ [] = empty-at (conflict_of types fields) none.pairs none.whole q listed.1 ∙ told-one q x y at_first at_second in
          cc

      by : (b : Bool) → is_broken types p.in_full x y ≡ b → b ≡ false
      by true is =
          absurd (told (below-is p x y first second ∙ ap (λ b. cond b None (Some (p.in_full && not (are_apart types x y)))) is))
      by false is = refl

-- ---- what is said of two fields on which one object type stands

module _ (schema : Schema) (T : ObjectType) where
  -- of object types only the type itself stands for one
  object-itself : (name : List ℕ) → Stands schema T name → is_object_name schema.types name ≡ true → name ≡ T.name.text
  object-itself name stands object = by_type (type_called name schema.types) stands object
    where
      by_name : (b : Bool) → bytes_eq name T.name.text ≡ b → (b || (false || false)) ≡ true → name ≡ T.name.text
      by_name true is holds = text-same name T.name.text is
      by_name false is holds = absurd (let e : false ≡ true = holds in cc)

      by_type : (o : Option ExtendedType) → (bytes_eq name T.name.text || (is_listed o name T.implements_interfaces || has_member o T.name.text)) ≡ true
          → is_some (option_and_then as_object o) ≡ true → name ≡ T.name.text
      by_type None holds is = absurd (let e : false ≡ true = is in cc)
      by_type (Some (type.Object it)) holds is = by_name (bytes_eq name T.name.text) refl holds
      by_type (Some (type.Scalar it)) holds is = absurd (let e : false ≡ true = is in cc)
      by_type (Some (type.Interface it)) holds is = absurd (let e : false ≡ true = is in cc)
      by_type (Some (type.Union it)) holds is = absurd (let e : false ≡ true = is in cc)
      by_type (Some (type.Enum it)) holds is = absurd (let e : false ≡ true = is in cc)
      by_type (Some (type.InputObject it)) holds is = absurd (let e : false ≡ true = is in cc)

  -- so two fields for whose types it stands are not apart
  pub not-apart : (x y : Selected) → Stands schema T x.parent.text → Stands schema T y.parent.text → are_apart schema.types x y ≡ false
  not-apart x y one other = by (is_object_name schema.types x.parent.text) (is_object_name schema.types y.parent.text) refl refl
    where
      second : (b : Bool) → (b && false) ≡ false
      second true = refl
      second false = refl

      by : (a b : Bool) → is_object_name schema.types x.parent.text ≡ a → is_object_name schema.types y.parent.text ≡ b
          → (not (bytes_eq x.parent.text y.parent.text) && (a && b)) ≡ false
      by false b first last = second (not (bytes_eq x.parent.text y.parent.text))
      by true false first last = second (not (bytes_eq x.parent.text y.parent.text))
      by true true first last =
          let same : x.parent.text ≡ y.parent.text = object-itself x.parent.text one first ∙ sym (object-itself y.parent.text other last) in
          ap (λ b. not b && true) (ap (bytes_eq x.parent.text) (sym same) ∙ text-itself x.parent.text)

  -- what two fields agree in that break nothing
  pub record Agree (x y : Selected) : Type 0 where
    pub name : x.name.text ≡ y.name.text
    pub types : types_conflict schema.types x y ≡ false
    pub below : below_fields schema.types true x y ≡ Some true

  pub agree : (x y : Selected) → Stands schema T x.parent.text → Stands schema T y.parent.text → is_broken schema.types true x y ≡ false → Agree x y
  agree x y one other sound =
      let parts = or-neither (types_conflict schema.types x y) ((true && not (are_apart schema.types x y)) && differ x y) sound in
      let near = not-apart x y one other in
      let same : differ x y ≡ false = sym (ap (λ b. (true && not b) && differ x y) near) ∙ parts.1 in
      let named = or-neither (names_conflict x y) (arguments_conflict x y) same in
      record {
        name = text-same x.name.text y.name.text (not-false (bytes_eq x.name.text y.name.text) named.0);
        types = parts.0;
        below = ap (λ b. cond b None (Some (true && not (are_apart schema.types x y)))) sound ∙ ap (λ b. Some (true && not b)) near;
      }
