-- What two executions make of each group of a root: one over all objects, and one that leaves out every field of the root.
use Rattle.std.proofs.Common.{◌≡◌, ℕ, Bool, true, false, cond, not, if◌then◌else◌, List, [], ◌∷◌, ◌++◌, map, Option, Some, None, Result, Ok, Err, option_map, refl, sym, ap, ap₂, ◌∙◌, subst, is_ok}
use Rattle.std.specs.List.{AllByRecursion, filter}
use Rattle.jb_tree.specs.declared.value.Value.{Value}
use Rattle.jb_tree.specs.declared.value.Value.TheVariants as json
use Rattle.gql_ast_base.specs.TypeParts.{is_non_null}
use Rattle.gql_coerce.specs.declared.told.ArgumentFault.{ArgumentFault}
use Rattle.gql_document_types.specs.declared.fragment.Fragment.{Fragment}
use Rattle.gql_document_types.specs.declared.selection.Selection.{Selection}
use Rattle.gql_exec.proofs.Lawful.{lawful}
use Rattle.gql_exec.specs.Asks.{definition_on, arguments_at, asked}
use Rattle.gql_exec.specs.Group.{Group}
use Rattle.gql_exec.specs.Request.{Members, Request}
use Rattle.gql_exec.specs.RequestWorld.{plain_world}
use Rattle.gql_exec.proofs.ThingsAlike.{after_arguments, alike, field-same}
use Rattle.gql_exec.proofs.Split.{IsRoot, root_answer, asks-root, asks-rest}
use Rattle.gql_exec.specs.IntrospectedRequest.{no_name, no_field, introspected_request, partial_request}
use Rattle.gql_exec.specs.Restricted.{is_meta}
use Rattle.gql_exec.specs.Thing.{Thing, of_user}
use Rattle.gql_exec.specs.ThingMeaning.{Resolving}
use Rattle.gql_resolvers.specs.Execute.{Made, Member, then_rest, with_key, settled_by, settled, unless_misfit, one_array, one_object, Below, object_made, value_made, items_made, field_made, groups_made, execute}
use Rattle.gql_resolvers.specs.Resolved.{Meaning, Meanings, gives_leaf, gives_object, gives_list, gives_skip, fails_with}
use Rattle.gql_resolvers.specs.Resolved.{Misfit, Fault, Outcome, answered, refused}
use Rattle.gql_resolvers.specs.Spot.{Spot, trail, field_spot}
use Rattle.gql_resolvers.specs.World.{World, key_of, IsLawful}
use Rattle.gql_schema_types.specs.declared.schema.Schema.{Schema}
use Rattle.gql_schema_types.specs.declared.types.ObjectType.{ObjectType}
use Rattle.gql_source.specs.File.{Files}
use Rattle.gql_gateway.specs.Joined.{root_key, root_keys}
use Rattle.gql_gateway.proofs.Paths.{field-begins}
use Rattle.gql_gateway.proofs.Rows.{Row, keys_in, whole, told, asked as asked_of, IsRow}

-- ---- a place that is not left out has one value, unless a null is passed on

abbrev pub IsOne : List Value → Type 0
IsOne vs = (v : Value) × (vs ≡ v ∷ [])

mapped-some : {A B : Type 0} (f : A → B) (o : Option A) (y : B) → option_map f o ≡ Some y → (x : A) × (o ≡ Some x) × (y ≡ f x)
mapped-some f None y is = absurd (let e : None ≡ Some y = is in cc)
mapped-some f (Some x) y is = (x, refl, (let e : Some (f x) ≡ Some y = is in let s : f x ≡ y = cc in sym s))

settled-one : (strict : Bool) (o : Option (List Value)) → ((us : List Value) → o ≡ Some us → IsOne us) → (vs : List Value) → settled_by strict o ≡ Some vs → IsOne vs
settled-one strict (Some us) one vs is = let same : us ≡ vs = (let e : Some us ≡ Some vs = is in cc) in subst IsOne same (one us refl)
settled-one false None one vs is = (json.Null, (let e : Some (json.Null ∷ []) ≡ Some vs = is in let s : json.Null ∷ [] ≡ vs = cc in sym s))
settled-one true None one vs is = absurd (let e : None ≡ Some vs = is in cc)

module _ {X T G S : Type 0} (w : World X T G S) (laws : IsLawful w) (run : Below w) (spot : Spot G) where
  object-one : (x : X) (type : Option T) → w.type_of x ≡ type → w.misfit spot.type (gives_object x) ≡ None
      → (vs : List Value) → (object_made w run spot x type).0 ≡ Some vs → IsOne vs
  object-one x None typed fits vs is = absurd (laws.object_typed spot.type x fits typed)
  object-one x (Some U) typed fits vs is =
      let found = mapped-some (λ (ms : List Member). json.Object ms ∷ []) (run U x (trail spot) (w.below spot.group)).0 vs is in
      (json.Object found.0, found.2)

  value-one : (m : Meaning X) → ¬ (answered m ≡ answered gives_skip) → w.misfit spot.type m ≡ None → (vs : List Value) → (value_made w run spot m).0 ≡ Some vs → IsOne vs
  value-one (gives_leaf v) kept fits vs is = (v, (let e : Some (v ∷ []) ≡ Some vs = is in let s : v ∷ [] ≡ vs = cc in sym s))
  value-one (gives_object x) kept fits vs is = object-one x (w.type_of x) refl fits vs is
  value-one (gives_list ms) kept fits vs is =
      let found = mapped-some (λ (us : List Value). json.Array us ∷ []) (items_made w run spot 0 ms).0 vs is in
      (json.Array found.0, found.2)
  value-one gives_skip kept fits vs is = absurd (kept refl)
  value-one (fails_with text) kept fits vs is = absurd (laws.failure_misfits spot.type text fits)

  unless-one : (m : Meaning X) (fault : Option Misfit) → w.misfit spot.type m ≡ fault → ¬ (answered m ≡ answered gives_skip)
      → (vs : List Value) → (unless_misfit w spot fault (value_made w run spot m)).0 ≡ Some vs → IsOne vs
  unless-one m (Some fault) is kept vs e = absurd (let f : None ≡ Some vs = e in cc)
  unless-one m None is kept vs e = value-one m kept is vs e

  pub field-one : (outcome : Outcome X) → ¬ (outcome ≡ answered gives_skip) → (vs : List Value) → (field_made w run spot outcome).0 ≡ Some vs → IsOne vs
  field-one (answered m) kept vs is =
      settled-one (is_non_null spot.type) (unless_misfit w spot (w.misfit spot.type m) (value_made w run spot m)).0
      (λ us e. unless-one m (w.misfit spot.type m) refl kept us e) vs is
  field-one (refused fault) kept vs is =
      settled-one (is_non_null spot.type) None (λ us e. absurd (let f : None ≡ Some us = e in cc)) vs is

-- ---- groups as rows

module _ {X : Type 0} (schema : Schema) (sources : Files) (fragments : List Fragment) (variables : Members) (types : X → List ℕ) (resolves : Resolving X) (U : ObjectType) (x : X)
    (depth : ℕ) where
  abbrev pub r : Request (Thing X)
  r = introspected_request schema sources fragments variables types resolves

  abbrev pub p : Request (Thing (Unit {0}))
  p = partial_request schema sources fragments variables

  abbrev pub v : World (Thing X) ObjectType Group (List (List Selection))
  v = plain_world r

  abbrev pub u : World (Thing (Unit {0})) ObjectType Group (List (List Selection))
  u = plain_world p

  abbrev pub asks_one : Group → Outcome (Thing X)
  asks_one g = v.asks U (of_user schema x) g

  abbrev asks_other : Group → Outcome (Thing (Unit {0}))
  asks_other g = u.asks U (of_user schema tt) g

  abbrev one_made : Group → Made Value
  one_made g = field_made v (execute v depth) (field_spot v U [] g) (asks_one g)

  abbrev other_made : Group → Made Value
  other_made g = field_made u (execute u depth) (field_spot u U [] g) (asks_other g)

  abbrev pub row_of : Group → Row
  row_of g = record { key = root_key g; made = one_made g; other = other_made g }

  pub keys-are : (gs : List Group) → keys_in (map row_of gs) ≡ root_keys gs
  keys-are [] = refl
  keys-are (g ∷ gs) = ap (λ ks. root_key g ∷ ks) (keys-are gs)

  pub whole-is : (gs : List Group) → whole (map row_of gs) ≡ groups_made v (execute v depth) U (of_user schema x) [] gs
  whole-is [] = refl
  whole-is (g ∷ gs) = ap (λ (m : Made Member). then_rest (with_key (key_of v g) (one_made g)) m) (whole-is gs)

  pub told-is : (gs : List Group) → told (map row_of gs) ≡ groups_made u (execute u depth) U (of_user schema tt) [] gs
  told-is [] = refl
  told-is (g ∷ gs) = ap (λ (m : Made Member). then_rest (with_key (key_of u g) (other_made g)) m) (told-is gs)

  pub asked-is : (gs : List Group) → asked_of (map row_of gs) ≡ groups_made v (execute v depth) U (of_user schema x) [] (filter (λ g. not (is_meta g)) gs)
  asked-is [] = refl
  asked-is (g ∷ gs) = by (is_meta g) (asked-is gs)
    where
      by : (b : Bool) → asked_of (map row_of gs) ≡ groups_made v (execute v depth) U (of_user schema x) [] (filter (λ g. not (is_meta g)) gs)
          → (if b then asked_of (map row_of gs) else then_rest (with_key (key_of v g) (one_made g)) (asked_of (map row_of gs)))
          ≡ groups_made v (execute v depth) U (of_user schema x) [] (cond (not b) (g ∷ filter (λ g. not (is_meta g)) gs) (filter (λ g. not (is_meta g)) gs))
      by true rest = rest
      by false rest = ap (λ (m : Made Member). then_rest (with_key (key_of v g) (one_made g)) m) rest

  -- what tells of the schema is made alike
  root-same : (g : Group) → is_meta g ≡ true → IsRoot schema U g → other_made g ≡ one_made g
  root-same g meta root =
      let spot = field_spot v U [] g in
      let o = after_arguments (root_answer schema sources fragments variables types resolves U x g.first.name.text) (arguments_at r (definition_on schema U g.first) g.first) in
      sym (
      ap (λ (y : Outcome (Thing X)). field_made v (execute v depth) spot y) (asks-root schema sources fragments variables types resolves U x g meta root)
      ∙ field-same schema sources fragments variables types resolves no_name no_field (execute v depth) (execute u depth)
      (alike schema sources fragments variables types resolves no_name no_field depth) spot schema o
      ∙ ap (λ (y : Outcome (Thing (Unit {0}))). field_made u (execute u depth) spot y) (sym (asks-root schema sources fragments variables no_name no_field U tt g meta root))
      )

  -- and what is left out passes on no null but that of an argument that fails, which is passed on anyway
  rest-passes : (g : Group) → is_meta g ≡ false → (vs : List Value) → (one_made g).0 ≡ Some vs → (us : List Value) × ((other_made g).0 ≡ Some us)
  rest-passes g none vs is = by (arguments_at r (definition_on schema U g.first) g.first) refl
    where
      by : (found : Result Members ArgumentFault) → arguments_at r (definition_on schema U g.first) g.first ≡ found → (us : List Value) × ((other_made g).0 ≡ Some us)
      by (Ok arguments) at = (
        [],
        ap (λ (y : Outcome (Thing (Unit {0}))). (field_made u (execute u depth) (field_spot u U [] g) y).0)
            (asks-rest schema sources fragments variables U g none (ap is_ok at)),
      )
      by (Err fault) at = (
        vs,
        ap (λ f. (field_made u (execute u depth) (field_spot u U [] g) (asked p U (of_user schema tt) g.first.name.text f)).0) at
            ∙ sym (ap (λ f. (field_made v (execute v depth) (field_spot v U [] g) (asked r U (of_user schema x) g.first.name.text f)).0) at)
            ∙ is,
      )

  passes-by : (b : Bool) (g : Group) → is_meta g ≡ b → (is_meta g ≡ true → other_made g ≡ one_made g) → (vs : List Value) → (one_made g).0 ≡ Some vs → (us : List Value) × ((other_made g).0 ≡ Some us)
  passes-by true g meta same vs is = (vs, ap (λ (m : Made Value). m.0) (same meta) ∙ is)
  passes-by false g none same vs is = rest-passes g none vs is

  pub is-row : (g : Group) → IsRoot schema U g → ¬ (asks_one g ≡ answered gives_skip) → IsRow (row_of g)
  is-row g root kept = record {
    begins = field-begins v (lawful r) U (of_user schema x) g depth;
    other_begins = field-begins u (lawful p) U (of_user schema tt) g depth;
    same = λ meta. root-same g meta root;
    passes = passes-by (is_meta g) g refl (λ meta. root-same g meta root);
    one = field-one v (lawful r) (execute v depth) (field_spot v U [] g) (asks_one g) kept;
  }
