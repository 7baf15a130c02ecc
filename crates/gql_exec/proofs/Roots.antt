-- The groups of a root: their fields are defined, and their keys are distinct.
use Rattle.std.proofs.Common.{◌≡◌, Bool, true, false, cond, ◌&&◌, ◌||◌, if◌then◌else◌, List, [], ◌∷◌, ◌++◌, Option, Some, None, is_some, refl, sym, ap, ◌∙◌, codes}
use Rattle.std.specs.List.{AllByRecursion, filter}
use Rattle.std.specs.Option.{option_or, option_and_then, option_map_or}
use Rattle.std.specs.Str.{bytes_eq}
use Rattle.gql_ast.specs.declared.field_definition.FieldDefinition.{FieldDefinition}
use Rattle.gql_document_types.specs.declared.selection.Field.{Field}
use Rattle.gql_document_types.specs.declared.selection.Selection.{Selection}
use Rattle.gql_schema_types.specs.Entries.{entry}
use Rattle.gql_schema_types.specs.MetaFields.{type_name_field, schema_field, type_field}
use Rattle.gql_schema_types.specs.Schemas.{is_query_root, meta_field, field_on, field_of}
use Rattle.gql_schema_types.specs.Types.{type_called, is_composite, fields_of, field_name}
use Rattle.gql_schema_types.specs.declared.schema.Schema.{Schema}
use Rattle.gql_schema_types.specs.declared.types.ExtendedType.{ExtendedType}
use Rattle.gql_schema_types.specs.declared.types.ObjectType.{ObjectType}
use Rattle.gql_collect.specs.Flat.{flat_sets}
use Rattle.gql_collect.specs.Groups.{FieldGroup, groups_of, has_field, is_defined}
use Rattle.gql_collect.proofs.Keys.{Text, text-same, text-itself}
use Rattle.gql_resolvers.specs.Depth.{AllGroups}
use Rattle.gql_resolvers.specs.World.{World, key_of, DistinctKeys}
use Rattle.gql_exec.specs.Group.{Group, started, groups_from}
use Rattle.gql_exec.specs.Request.{Request}
use Rattle.gql_exec.specs.RequestWorld.{plain, plain_world, setting_on}
use Rattle.gql_exec.specs.Restricted.{is_meta, is_meta_key, HasNoOwn}
use Rattle.gql_exec.proofs.Split.{IsRoot}

-- ---- fields of introspection

root-by : (composite root a b c : Bool) → a ≡ false
    → is_some (if composite && a then Some type_name_field else (if root && b then Some schema_field else (if root && c then Some type_field else None))) ≡ true → root ≡ true
root-by composite true a b c is some = refl
root-by true false a b c is some = absurd (let e : false ≡ true = sym (ap (λ n. is_some (if n then Some type_name_field else None)) is) ∙ some in cc)
root-by false false a b c is some = absurd (let e : false ≡ true = some in cc)

module _ (schema : Schema) (U : ObjectType) (own : HasNoOwn schema U) where
  root-on : (ty : ExtendedType) (f : Text) → entry field_name f (fields_of ty) ≡ None → bytes_eq f (codes "__typename") ≡ false
      → is_some (field_on schema.schema_definition ty U.name.text f) ≡ true → is_query_root schema.schema_definition U.name.text ≡ true
  root-on ty f none other some =
      let meta = meta_field (is_composite ty) (is_query_root schema.schema_definition U.name.text) f in
      root-by (is_composite ty) (is_query_root schema.schema_definition U.name.text) (bytes_eq f (codes "__typename")) (bytes_eq f (codes "__schema")) (bytes_eq f (codes "__type")) other
      (sym (ap (λ (o : Option FieldDefinition). is_some (option_or o meta)) none) ∙ some)

  root-of : (f : Text) → (bytes_eq f (codes "__schema") || bytes_eq f (codes "__type")) ≡ true → bytes_eq f (codes "__typename") ≡ false
      → is_some (field_of schema U.name.text f) ≡ true → is_query_root schema.schema_definition U.name.text ≡ true
  root-of f named other some = by_type (type_called U.name.text schema.types) refl some
    where
      none-of : (ty : ExtendedType) → type_called U.name.text schema.types ≡ Some ty → (a b : Bool) → bytes_eq f (codes "__schema") ≡ a → bytes_eq f (codes "__type") ≡ b → (a || b) ≡ true
          → entry field_name f (fields_of ty) ≡ None
      none-of ty at true b is si e = ap (λ n. entry field_name n (fields_of ty)) (text-same f (codes "__schema") is) ∙ (own ty at).0
      none-of ty at false true is si e = ap (λ n. entry field_name n (fields_of ty)) (text-same f (codes "__type") si) ∙ (own ty at).1
      none-of ty at false false is si e = absurd (let g : false ≡ true = e in cc)

      by_type : (o : Option ExtendedType) → type_called U.name.text schema.types ≡ o
          → is_some (option_and_then (λ ty. field_on schema.schema_definition ty U.name.text f) o) ≡ true → is_query_root schema.schema_definition U.name.text ≡ true
      by_type None at e = absurd (let g : false ≡ true = e in cc)
      by_type (Some ty) at e = root-on ty f (none-of ty at (bytes_eq f (codes "__schema")) (bytes_eq f (codes "__type")) refl refl named) other e

  pub is-root : (g : Group) → has_field schema U g.first ≡ true → IsRoot schema U g
  is-root g defined meta other =
      let f = g.first.name.text in
      let named : (bytes_eq f (codes "__schema") || bytes_eq f (codes "__type")) ≡ true =
      sym (ap (λ b. b || (bytes_eq f (codes "__schema") || bytes_eq f (codes "__type"))) other) ∙ meta in
      ap (λ b. b && is_query_root schema.schema_definition U.name.text) named ∙ root-of f named other defined

-- ---- groups

module _ {X : Type 0} (r : Request X) (U : ObjectType) where
  abbrev w : World X ObjectType Group (List (List Selection))
  w = plain_world r

  abbrev pub IsDefined : Group → Type 0
  IsDefined g = has_field r.schema U g.first ≡ true

  first-defined : (o : Option Field) (fields : List Field) (rest : List Group) → option_map_or (has_field r.schema U) o false ≡ true → AllGroups w IsDefined rest
      → AllGroups w IsDefined (started o fields ++ rest)
  first-defined None fields rest is all = all
  first-defined (Some f) fields rest is all = (is, all)

  all-defined : (gs : List FieldGroup) → AllGroups w IsDefined (groups_from (filter (is_defined r.schema U) gs))
  all-defined [] = tt
  all-defined (g ∷ gs) = by (is_defined r.schema U g) refl (all-defined gs)
    where
      by : (b : Bool) → is_defined r.schema U g ≡ b → AllGroups w IsDefined (groups_from (filter (is_defined r.schema U) gs))
          → AllGroups w IsDefined (groups_from (cond b (g ∷ filter (is_defined r.schema U) gs) (filter (is_defined r.schema U) gs)))
      by true is all = first-defined g.first g.fields (groups_from (filter (is_defined r.schema U) gs)) is all
      by false is all = all

  pub groups-defined : (sets : List (List Selection)) → AllGroups w IsDefined (plain r U sets)
  groups-defined sets = all-defined (groups_of (flat_sets (setting_on r U) sets))

  -- ---- keys

  unequal : (a b : Text) → ¬ (a ≡ b) → bytes_eq b a ≡ false
  unequal a b different = by (bytes_eq b a) refl
    where
      by : (e : Bool) → bytes_eq b a ≡ e → e ≡ false
      by true is = absurd (different (sym (text-same b a is)))
      by false is = refl

  and-false : (b : Bool) → (b && false) ≡ false
  and-false true = refl
  and-false false = refl

  and-true : (b : Bool) → ((b && true) || false) ≡ b
  and-true true = refl
  and-true false = refl

  absent : (h : Group) (gs : List Group) → AllByRecursion (λ g. ¬ (key_of w h ≡ key_of w g)) gs → is_meta_key gs (key_of w h) ≡ false
  absent h [] apart = refl
  absent h (g ∷ gs) apart =
      ap (λ b. (is_meta g && b) || is_meta_key gs (key_of w h)) (unequal (key_of w g) (key_of w h) (λ same. apart.0 (sym same)))
      ∙ ap (λ b. b || is_meta_key gs (key_of w h)) (and-false (is_meta g)) ∙ absent h gs apart.1

  longer : (h : Group) (hs gs : List Group) → AllByRecursion (λ g. ¬ (key_of w h ≡ key_of w g)) gs → AllGroups w (λ g. is_meta_key hs (key_of w g) ≡ is_meta g) gs
      → AllGroups w (λ g. is_meta_key (h ∷ hs) (key_of w g) ≡ is_meta g) gs
  longer h hs [] apart all = tt
  longer h hs (g ∷ gs) apart all =
      (ap (λ b. (is_meta h && b) || is_meta_key hs (key_of w g)) (unequal (key_of w h) (key_of w g) apart.0) ∙ ap (λ b. b || is_meta_key hs (key_of w g)) (and-false (is_meta h)) ∙ all.0, longer h hs gs apart.1 all.1)

  pub own-keys : (gs : List Group) → DistinctKeys w gs → AllGroups w (λ g. is_meta_key gs (key_of w g) ≡ is_meta g) gs
  own-keys [] apart = tt
  own-keys (h ∷ hs) apart = (
    ap (λ b. (is_meta h && b) || is_meta_key hs (key_of w h)) (text-itself (key_of w h)) ∙ ap (λ b. (is_meta h && true) || b) (absent h hs apart.0) ∙ and-true (is_meta h),
    longer h hs hs apart.0 (own-keys hs apart.1),
  )
