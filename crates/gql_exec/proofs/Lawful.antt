-- The world of a document keeps what the laws of execution ask of a world.
use Rattle.std.proofs.Common.{rules, ◌≡◌, ℕ, Bool, true, false, cond, if◌then◌else◌, ◌||◌, List, [], ◌∷◌, ◌++◌, Option, Some, None, refl, sym, ap, ◌∙◌, subst, map}
use Rattle.std.specs.List.{AllByRecursion, filter, find}
use Rattle.std.specs.Option.{option_and_then}
use Rattle.std.specs.Str.{bytes_eq}
use Rattle.jb_tree.specs.declared.value.Value.{the_lemmas}
use Rattle.jb_tree.specs.declared.value.Value.TheVariants as json
use Rattle.jb_tree.specs.Value.{is_null}
use Rattle.gql_ast_base.specs.declared.type_ref.TypeRef.{TypeRef}
use Rattle.gql_ast_base.specs.TypeParts.{named_type}
use Rattle.gql_document_types.specs.declared.selection.Field.{Field}
use Rattle.gql_document_types.specs.declared.selection.Selection.{Selection}
use Rattle.gql_schema_types.specs.Schemas.{object_of}
use Rattle.gql_schema_types.specs.Types.{type_called, as_object}
use Rattle.gql_schema_types.specs.declared.schema.Schema.{Schema}
use Rattle.gql_schema_types.specs.declared.types.ExtendedType.{ExtendedType}
use Rattle.gql_schema_types.specs.declared.types.ExtendedType.TheVariants as type
use Rattle.gql_schema_types.specs.declared.types.ObjectType.{ObjectType}
use Rattle.gql_resolvers.specs.Fit.{wrong, unless, null_misfit, leaf_misfit, leaf_at, implementing_misfit, member_misfit, object_at, object_misfit}
use Rattle.gql_resolvers.specs.Lists.{is_list}
use Rattle.gql_resolvers.specs.Messages as message
use Rattle.gql_collect.specs.Flat.{flat_sets}
use Rattle.gql_collect.specs.Groups.{response_key, has_key, keys, FieldGroup, group_at, is_defined}
use Rattle.gql_collect.proofs.Keys.{Text, has, text-same, text-itself, AreDistinct, are-distinct}
use Rattle.gql_resolvers.specs.Resolved.{Misfit}
use Rattle.gql_ast_base.specs.TypeParts.{is_non_null}
use Rattle.gql_resolvers.specs.World.{World, key_of, DistinctKeys, IsLawful}
use Rattle.gql_exec.specs.Group.{Group, started, groups_from}
use Rattle.gql_exec.specs.Request.{Request}
use Rattle.gql_exec.specs.RequestWorld.{setting_on, plain, plain_world}

by_unless : (b : Bool) (m : Misfit) → unless b m ≡ None → b ≡ true
by_unless true m fits = refl
by_unless false m fits = absurd (let e : Some m ≡ None = fits in cc)

-- an object that fits names an object type of the schema
module _ (schema : Schema) where
  typed_at : (defined : Option ExtendedType) (T found : List ℕ) → type_called T schema.types ≡ defined → object_at schema defined T found ≡ None → object_of schema found ≡ None → ⊥
  typed_at None T found is fits missing = cc
  typed_at (Some (type.Object it)) T found is fits missing =
      let same : found ≡ T = text-same found T (by_unless (bytes_eq found T) (wrong (message.other_object found T)) fits) in
      let there : object_of schema found ≡ Some it = ap (object_of schema) same ∙ ap (option_and_then as_object) is in
      let e : Some it ≡ None = sym there ∙ missing in cc
  typed_at (Some (type.Interface it)) T found is fits missing =
      let e : Some (wrong (message.object_not_defined found)) ≡ None = sym (ap (λ o. implementing_misfit o T found) missing) ∙ fits in cc
  typed_at (Some (type.Union it)) T found is fits missing =
      let e : Some (wrong (message.object_not_defined found)) ≡ None = sym (ap (λ o. member_misfit o it.members T found) missing) ∙ fits in cc
  typed_at (Some (type.InputObject it)) T found is fits missing = cc
  typed_at (Some (type.Scalar it)) T found is fits missing = cc
  typed_at (Some (type.Enum it)) T found is fits missing = cc

  typed_by : (list : Bool) (ty : TypeRef) (found : List ℕ)
      → (if list then Some (wrong (message.other_at_list ty)) else object_at schema (type_called (named_type ty).text schema.types) (named_type ty).text found) ≡ None
      → object_of schema found ≡ None → ⊥
  typed_by true ty found fits missing = cc
  typed_by false ty found fits missing = typed_at (type_called (named_type ty).text schema.types) (named_type ty).text found refl fits missing

  typed : (ty : TypeRef) (found : List ℕ) → object_misfit schema ty found ≡ None → object_of schema found ≡ None → ⊥
  typed ty found fits missing = typed_by (is_list ty) ty found fits missing

  null-is : is_null json.Null ≡ true
  null-is = search (rules, the_lemmas)

  strict_null : (ty : TypeRef) → is_non_null ty ≡ true → leaf_misfit schema ty json.Null ≡ None → ⊥
  strict_null ty strict fits =
      let rest = (if is_list ty then Some (wrong (message.other_at_list ty)) else leaf_at (type_called (named_type ty).text schema.types) (named_type ty).text json.Null) in
      let e : Some (wrong (message.null_at_non_null ty)) ≡ None =
      sym (ap (λ b. if b then null_misfit ty else rest) null-is ∙ ap (λ b. if b then Some (wrong (message.null_at_non_null ty)) else None) strict) ∙ fits in cc

-- what is found has what was looked for
find-has : (k : Text) (fs : List Field) (f : Field) → find (has_key k) fs ≡ Some f → has_key k f ≡ true
find-has k [] f is = absurd (let e : None ≡ Some f = is in cc)
find-has k (x ∷ xs) f is = by (has_key k x) refl is (find-has k xs f)
  where
    by : (b : Bool) → has_key k x ≡ b → cond b (Some x) (find (has_key k) xs) ≡ Some f → (find (has_key k) xs ≡ Some f → has_key k f ≡ true) → has_key k f ≡ true
    by true here e rest = let same : x ≡ f = (let g : Some x ≡ Some f = e in cc) in subst (λ y. has_key k y ≡ true) same here
    by false here e rest = rest e

module _ {X : Type 0} (r : Request X) (U : ObjectType) (p : FieldGroup → Bool) (fields : List Field) where
  abbrev w : World X ObjectType Group (List (List Selection))
  w = plain_world r

  abbrev kept : List Text → List Group
  kept ks = groups_from (filter p (map (group_at fields) ks))

  -- the groups of other keys have other keys
  others : (j : Text) (k : Text) (ks : List Text) (o : Option Field) → find (has_key k) fields ≡ o → bytes_eq j k ≡ false
      → AllByRecursion (λ h. ¬ (j ≡ key_of w h)) (kept ks)
      → AllByRecursion (λ h. ¬ (j ≡ key_of w h)) (started o (filter (has_key k) fields) ++ kept ks)
  others j k ks None is other rest = rest
  others j k ks (Some f) is other rest =
      (λ same. let e : true ≡ false = sym (text-itself k) ∙ ap (λ i. bytes_eq i k) (text-same k (response_key f) (find-has k fields f is) ∙ sym same) ∙ other in cc, rest)

  all_others : (j : Text) (ks : List Text) → has j ks ≡ false → AllByRecursion (λ h. ¬ (j ≡ key_of w h)) (kept ks)
  all_others j [] absent = tt
  all_others j (k ∷ ks) absent = by (bytes_eq j k) refl absent (all_others j ks)
    where
      keep : (b : Bool) → bytes_eq j k ≡ false → AllByRecursion (λ h. ¬ (j ≡ key_of w h)) (kept ks)
          → AllByRecursion (λ h. ¬ (j ≡ key_of w h)) (groups_from (cond b (group_at fields k ∷ filter p (map (group_at fields) ks)) (filter p (map (group_at fields) ks))))
      keep true other rest = others j k ks (find (has_key k) fields) refl other rest
      keep false other rest = rest

      by : (b : Bool) → bytes_eq j k ≡ b → (b || has j ks) ≡ false → (has j ks ≡ false → AllByRecursion (λ h. ¬ (j ≡ key_of w h)) (kept ks))
          → AllByRecursion (λ h. ¬ (j ≡ key_of w h)) (kept (k ∷ ks))
      by true is e rest = absurd (let f : true ≡ false = e in cc)
      by false is e rest = keep (p (group_at fields k)) is (rest e)

  first_distinct : (k : Text) (ks : List Text) (o : Option Field) → find (has_key k) fields ≡ o → has k ks ≡ false → DistinctKeys w (kept ks)
      → DistinctKeys w (started o (filter (has_key k) fields) ++ kept ks)
  first_distinct k ks None is absent rest = rest
  first_distinct k ks (Some f) is absent rest =
      let same : k ≡ response_key f = text-same k (response_key f) (find-has k fields f is) in
      (subst (λ j. AllByRecursion (λ h. ¬ (j ≡ key_of w h)) (kept ks)) same (all_others k ks absent), rest)

  distinct : (ks : List Text) → AreDistinct ks → DistinctKeys w (kept ks)
  distinct [] apart = tt
  distinct (k ∷ ks) apart = keep (p (group_at fields k)) (distinct ks apart.1)
    where
      keep : (b : Bool) → DistinctKeys w (kept ks)
          → DistinctKeys w (groups_from (cond b (group_at fields k ∷ filter p (map (group_at fields) ks)) (filter p (map (group_at fields) ks))))
      keep true rest = first_distinct k ks (find (has_key k) fields) refl apart.0 rest
      keep false rest = rest

pub lawful : {X : Type 0} (r : Request X) → IsLawful (plain_world r)
lawful r = record {
  failure_misfits = λ ty text fits. let e : Some (wrong (message.resolver_error text)) ≡ None = fits in cc;
  object_typed = λ ty x fits missing. typed r.schema ty (r.type_of x) fits missing;
  null_misfits = λ ty strict fits. strict_null r.schema ty strict fits;
  distinct_keys = λ U sets.
      let fields = flat_sets (setting_on r U) sets in
      distinct r U (is_defined r.schema U) fields (keys fields) (are-distinct (map response_key fields) []);
}
