-- The execution of an object that leaves every field out, beside that of a user's object.
use Rattle.std.proofs.Common.{◌≡◌, ℕ, Bool, true, false, cond, ◌&&◌, ◌||◌, if◌then◌else◌, List, [], ◌∷◌, ◌++◌, Option, Some, None, Result, Ok, Err, refl, sym, ap, ◌∙◌, subst, codes}
use Rattle.std.specs.List.{filter}
use Rattle.std.specs.Prelude.{is_ok}
use Rattle.std.specs.Option.{option_map}
use Rattle.std.specs.Str.{bytes_eq}
use Rattle.std.proofs.lemmas.List.Elements.{filter-append}
use Rattle.jb_tree.specs.declared.value.Value.{Value}
use Rattle.jb_tree.specs.declared.value.Value.TheVariants as json
use Rattle.gql_coerce.specs.declared.told.ArgumentFault.{ArgumentFault}
use Rattle.gql_document_types.specs.declared.fragment.Fragment.{Fragment}
use Rattle.gql_document_types.specs.declared.selection.Selection.{Selection}
use Rattle.gql_schema_types.specs.Schemas.{is_query_root}
use Rattle.gql_schema_types.specs.declared.schema.Schema.{Schema}
use Rattle.gql_schema_types.specs.declared.types.ObjectType.{ObjectType}
use Rattle.gql_source.specs.File.{Files}
use Rattle.gql_resolvers.specs.Depth.{AllGroups}
use Rattle.gql_resolvers.specs.Execute.{Made, Member, front_of, then_rest, then_rest_of, with_key, keyed, Below, field_made, groups_made}
use Rattle.gql_resolvers.specs.Resolved.{Meaning, gives_leaf, gives_skip, Outcome, answered}
use Rattle.gql_resolvers.specs.Spot.{Spot, field_spot}
use Rattle.gql_resolvers.specs.Trail.{Trail}
use Rattle.gql_resolvers.specs.World.{World, key_of}
use Rattle.gql_introspection.specs.Meta.{Meta}
use Rattle.gql_exec.specs.Asks.{definition_on, arguments_at, answer, asked, asks, is_introspection}
use Rattle.gql_exec.specs.Group.{Group}
use Rattle.gql_exec.specs.Request.{Members, Request}
use Rattle.gql_exec.specs.IntrospectedRequest.{no_name, no_field}
use Rattle.gql_exec.specs.Restricted.{is_meta_name, is_meta}
use Rattle.gql_exec.specs.Thing.{Thing, of_user}
use Rattle.gql_exec.specs.ThingMeaning.{Resolving, root_meaning, own_meaning}
use Rattle.gql_exec.proofs.ThingsAlike.{told_of, outcome_of, named_or, after_arguments, introspected, one, two, Agree, field-same}

-- a field with a name of introspection is one of introspection, unless it is `__typename`
abbrev pub IsRoot : Schema → ObjectType → Group → Type 0
IsRoot schema U g = is_meta g ≡ true → bytes_eq g.first.name.text (codes "__typename") ≡ false → is_introspection schema U g.first.name.text ≡ true

module _ {X : Type 0} (schema : Schema) (sources : Files) (fragments : List Fragment) (variables : Members) (types : X → List ℕ) (resolves : Resolving X) (U : ObjectType) (x : X) where
  abbrev r : Request (Thing X)
  r = introspected schema sources fragments variables types resolves

  -- what the root answers of the schema
  abbrev pub root_answer : List ℕ → Members → Meaning Meta
  root_answer f arguments = named_or U f (root_meaning schema f arguments)

  answer-root : (f : List ℕ) (arguments : Members) → (bytes_eq f (codes "__typename") ≡ false → is_introspection schema U f ≡ true)
      → answer r U (of_user schema x) f arguments ≡ told_of schema (root_answer f arguments)
  answer-root f arguments root = by (bytes_eq f (codes "__typename")) (is_introspection schema U f) root
    where
      by : (named told : Bool) → (named ≡ false → told ≡ true)
          → (if named then gives_leaf (json.String U.name.text) else (if told then told_of {X = X} schema (root_meaning schema f arguments) else own_meaning resolves schema U (of_user schema x) f arguments))
          ≡ told_of {X = X} schema (if named then gives_leaf (json.String U.name.text) else root_meaning schema f arguments)
      by true told root = refl
      by false true root = refl
      by false false root = absurd (let e : false ≡ true = root refl in cc)

  pub asks-root : (g : Group) → is_meta g ≡ true → IsRoot schema U g
      → asks r U (of_user schema x) g.first ≡ outcome_of schema (after_arguments (root_answer g.first.name.text) (arguments_at r (definition_on schema U g.first) g.first))
  asks-root g meta root = by (arguments_at r (definition_on schema U g.first) g.first)
    where
      by : (found : Result Members ArgumentFault)
          → asked r U (of_user schema x) g.first.name.text found ≡ outcome_of schema (after_arguments (root_answer g.first.name.text) found)
      by (Ok arguments) = ap answered (answer-root g.first.name.text arguments (root meta))
      by (Err fault) = refl

module _ (schema : Schema) (sources : Files) (fragments : List Fragment) (variables : Members) (U : ObjectType) where
  abbrev p : Request (Thing (Unit {0}))
  p = introspected schema sources fragments variables no_name no_field

  -- any other field is left out
  answer-rest : (f : List ℕ) (arguments : Members) → is_meta_name f ≡ false → answer p U (of_user schema tt) f arguments ≡ gives_skip
  answer-rest f arguments rest = by (bytes_eq f (codes "__typename")) (bytes_eq f (codes "__schema") || bytes_eq f (codes "__type")) rest
    where
      by : (named told : Bool) → (named || told) ≡ false
          → (if named then gives_leaf (json.String U.name.text)
          else (if told && is_query_root schema.schema_definition U.name.text then told_of {X = Unit {0}} schema (root_meaning schema f arguments) else gives_skip))
          ≡ gives_skip
      by true told e = absurd (let f : true ≡ false = e in cc)
      by false true e = absurd (let f : true ≡ false = e in cc)
      by false false e = refl

  pub asks-rest : (g : Group) → is_meta g ≡ false → is_ok (arguments_at p (definition_on schema U g.first) g.first) ≡ true
      → asks p U (of_user schema tt) g.first ≡ answered gives_skip
  asks-rest g rest coerce = by (arguments_at p (definition_on schema U g.first) g.first) coerce
    where
      by : (found : Result Members ArgumentFault) → is_ok found ≡ true → asked p U (of_user schema tt) g.first.name.text found ≡ answered gives_skip
      by (Ok arguments) e = ap answered (answer-rest g.first.name.text arguments rest)
      by (Err fault) e = absurd (let f : false ≡ true = e in cc)

-- ---- members of keys

module _ (kept : List ℕ → Bool) where
  abbrev pub with_kept : List Member → List Member
  with_kept members = filter (λ (m : Member). kept m.0) members

  kept-all : (k : List ℕ) (vs : List Value) → kept k ≡ true → with_kept (keyed k vs) ≡ keyed k vs
  kept-all k [] is = refl
  kept-all k (v ∷ vs) is = ap (λ b. cond b ((k, v) ∷ with_kept (keyed k vs)) (with_kept (keyed k vs))) is ∙ ap (λ (ms : List Member). (k, v) ∷ ms) (kept-all k vs is)

  kept-none : (k : List ℕ) (vs : List Value) → kept k ≡ false → with_kept (keyed k vs) ≡ []
  kept-none k [] is = refl
  kept-none k (v ∷ vs) is = ap (λ b. cond b ((k, v) ∷ with_kept (keyed k vs)) (with_kept (keyed k vs))) is ∙ kept-none k vs is

  -- what the rest is, where the members are those of a key and then the rest
  abbrev pub Rest : Option (List Member) → Option (List Member) → Type 0
  Rest whole part = (members : List Member) → whole ≡ Some members → part ≡ Some (with_kept members)

  rest-kept : (k : List ℕ) (made : Made Value) (whole part : Made Member) → kept k ≡ true → Rest whole.0 part.0
      → Rest (then_rest (with_key k made) whole).0 (then_rest (with_key k made) part).0
  rest-kept k made whole part is rest members all = by made.0 whole.0 all rest
    where
      by : (found : Option (List Value)) (others : Option (List Member)) → (then_rest_of (option_map (λ vs. keyed k vs) found) made.1 (others, whole.1)).0 ≡ Some members → Rest others part.0
          → (then_rest_of (option_map (λ vs. keyed k vs) found) made.1 part).0 ≡ Some (with_kept members)
      by None others e rest = absurd (let f : None ≡ Some members = e in cc)
      by (Some vs) None e rest = absurd (let f : None ≡ Some members = e in cc)
      by (Some vs) (Some ms) e rest =
          let is_all : keyed k vs ++ ms ≡ members = (let f : Some (keyed k vs ++ ms) ≡ Some members = e in cc) in
          ap (front_of (keyed k vs)) (rest ms refl)
          ∙ ap Some (ap (λ (front : List Member). front ++ with_kept ms) (sym (kept-all k vs is)) ∙ sym (filter-append (λ (m : Member). kept m.0) (keyed k vs) ms) ∙ ap (with_kept) is_all)

  rest-left : (k : List ℕ) (made : Made Value) (whole part : Made Member) → kept k ≡ false → Rest whole.0 part.0
      → Rest (then_rest (with_key k made) whole).0 part.0
  rest-left k made whole part is rest members all = by made.0 whole.0 all rest
    where
      by : (found : Option (List Value)) (others : Option (List Member)) → (then_rest_of (option_map (λ vs. keyed k vs) found) made.1 (others, whole.1)).0 ≡ Some members → Rest others part.0
          → part.0 ≡ Some (with_kept members)
      by None others e rest = absurd (let f : None ≡ Some members = e in cc)
      by (Some vs) None e rest = absurd (let f : None ≡ Some members = e in cc)
      by (Some vs) (Some ms) e rest =
          let is_all : keyed k vs ++ ms ≡ members = (let f : Some (keyed k vs ++ ms) ≡ Some members = e in cc) in
          rest ms refl
          ∙ ap Some (ap (λ (front : List Member). front ++ with_kept ms) (sym (kept-none k vs is)) ∙ sym (filter-append (λ (m : Member). kept m.0) (keyed k vs) ms) ∙ ap (with_kept) is_all)

-- ---- groups

front-none : (o : Option (List Member)) → front_of [] o ≡ o
front-none None = refl
front-none (Some ms) = refl

module _ {X : Type 0} (schema : Schema) (sources : Files) (fragments : List Fragment) (variables : Members) (types : X → List ℕ) (resolves : Resolving X) (U : ObjectType) (x : X)
    (kept : List ℕ → Bool) where
  abbrev v : World (Thing X) ObjectType Group (List (List Selection))
  v = one schema sources fragments variables types resolves no_name no_field

  abbrev w : World (Thing (Unit {0})) ObjectType Group (List (List Selection))
  w = two schema sources fragments variables types resolves no_name no_field

  -- what is known of a group of the root
  pub record IsSplit (g : Group) : Type 0 where
    pub key : kept (key_of v g) ≡ is_meta g
    pub root : IsRoot schema U g
    pub coerce : is_meta g ≡ false → is_ok (arguments_at (introspected schema sources fragments variables types resolves) (definition_on schema U g.first) g.first) ≡ true

  module _ (run : Below v) (other : Below w) (agree : Agree schema sources fragments variables types resolves no_name no_field run other) where
    root-field : (g : Group) (spot : Spot Group) → is_meta g ≡ true → IsRoot schema U g
        → field_made v run spot (v.asks U (of_user schema x) g) ≡ field_made w other spot (w.asks U (of_user schema tt) g)
    root-field g spot meta root =
        let o = after_arguments (root_answer schema sources fragments variables types resolves U x g.first.name.text)
        (arguments_at (introspected schema sources fragments variables types resolves) (definition_on schema U g.first) g.first) in
        ap (λ (y : Outcome (Thing X)). field_made v run spot y) (asks-root schema sources fragments variables types resolves U x g meta root)
        ∙ field-same schema sources fragments variables types resolves no_name no_field run other agree spot schema o
        ∙ ap (λ (y : Outcome (Thing (Unit {0}))). field_made w other spot y) (sym (asks-root schema sources fragments variables no_name no_field U tt g meta root))

    left-out : (g : Group) (outer : Trail) (rest : Made Member) → is_meta g ≡ false
        → is_ok (arguments_at (introspected schema sources fragments variables types resolves) (definition_on schema U g.first) g.first) ≡ true
        → (then_rest (with_key (key_of w g) (field_made w other (field_spot w U outer g) (w.asks U (of_user schema tt) g))) rest).0 ≡ rest.0
    left-out g outer rest none coerce =
        ap (λ (y : Outcome (Thing (Unit {0}))). (then_rest (with_key (key_of w g) (field_made w other (field_spot w U outer g) y)) rest).0)
        (asks-rest schema sources fragments variables U g none coerce)
        ∙ front-none rest.0

    split-one : (outer : Trail) (g : Group) (whole part : Made Member) → IsSplit g → Rest kept whole.0 part.0
        → Rest kept (then_rest (with_key (key_of v g) (field_made v run (field_spot v U outer g) (v.asks U (of_user schema x) g))) whole).0
        (then_rest (with_key (key_of w g) (field_made w other (field_spot w U outer g) (w.asks U (of_user schema tt) g))) part).0
    split-one outer g whole part it rest = by (is_meta g) refl
      where
        by : (b : Bool) → is_meta g ≡ b
            → Rest kept (then_rest (with_key (key_of v g) (field_made v run (field_spot v U outer g) (v.asks U (of_user schema x) g))) whole).0
            (then_rest (with_key (key_of w g) (field_made w other (field_spot w U outer g) (w.asks U (of_user schema tt) g))) part).0
        by true meta =
            let first = field_made v run (field_spot v U outer g) (v.asks U (of_user schema x) g) in
            subst (λ (m : Made Value). Rest kept (then_rest (with_key (key_of v g) first) whole).0 (then_rest (with_key (key_of v g) m) part).0)
            (root-field g (field_spot v U outer g) meta it.root) (rest-kept kept (key_of v g) first whole part (it.key ∙ meta) rest)
        by false none =
            let first = field_made v run (field_spot v U outer g) (v.asks U (of_user schema x) g) in
            subst (λ (o : Option (List Member)). Rest kept (then_rest (with_key (key_of v g) first) whole).0 o)
            (sym (left-out g outer part none (it.coerce none))) (rest-left kept (key_of v g) first whole part (it.key ∙ none) rest)

    pub split : (outer : Trail) (gs : List Group) → AllGroups v IsSplit gs
        → Rest kept (groups_made v run U (of_user schema x) outer gs).0 (groups_made w other U (of_user schema tt) outer gs).0
    split outer [] each members all = let none : [] ≡ members = (let f : Some [] ≡ Some members = all in cc) in ap (λ (ms : List Member). Some (with_kept kept ms)) none
    split outer (g ∷ gs) each members all =
        split-one outer g (groups_made v run U (of_user schema x) outer gs) (groups_made w other U (of_user schema tt) outer gs) each.0 (split outer gs each.1) members all
