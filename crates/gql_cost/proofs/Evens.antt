-- In validated documents the fields of each group have as many lists as their place.
use Rattle.std.proofs.Common.{◌≡◌, ℕ, suc, ◌+◌, Bool, true, List, [], ◌∷◌, ◌++◌, map, Option, Some, None, unwrap_or, refl, sym, ap, ◌∙◌, subst, inl, inr}
use Rattle.std.specs.List.{AllByRecursion, filter, find}
use Rattle.gql_ast_base.specs.Names.{Named}
use Rattle.gql_ast_base.specs.TypeParts.{named_type}
use Rattle.gql_ast_base.specs.declared.type_ref.TypeRef.{TypeRef}
use Rattle.gql_ast.specs.declared.field_definition.FieldDefinition.{FieldDefinition}
use Rattle.gql_document_types.specs.Typed.{AreTyped, AreFragmentsTyped}
use Rattle.gql_document_types.specs.declared.selection.Field.{Field}
use Rattle.gql_document_types.specs.declared.selection.Selection.{Selection}
use Rattle.gql_exec.specs.Asks.{definition_on}
use Rattle.gql_exec.specs.Group.{Group, pieces_of, started, groups_from}
use Rattle.gql_exec.specs.Request.{Request}
use Rattle.gql_exec.specs.RequestWorld.{plain, plain_world, setting_on}
use Rattle.gql_collect.proofs.Keys.{Text, text-same}
use Rattle.gql_collect.specs.Flat.{flat, flat_sets}
use Rattle.gql_collect.specs.Groups.{response_key, has_key, keys, FieldGroup, group_at, groups_of, is_defined, applying}
use Rattle.gql_resolvers.specs.Reached.{IsAmong, items_of, fields_of, fields_if, inside, Reaches, at_root, at_inside}
use Rattle.gql_resolvers.specs.Resolved.{Meaning, Meanings, gives_leaf, gives_object, gives_list, gives_skip, fails_with, no_answer, answer_then, Outcome}
use Rattle.gql_resolvers.specs.Spot.{Spot, trail, item_spot}
use Rattle.gql_resolvers.specs.Trail.{Trail}
use Rattle.gql_resolvers.specs.World.{World}
use Rattle.gql_schema_types.specs.Schemas.{field_of, object_of}
use Rattle.gql_schema_types.specs.declared.schema.Schema.{Schema}
use Rattle.gql_schema_types.specs.declared.types.ObjectType.{ObjectType}
use Rattle.gql_valid_laws.specs.Covariant.{lists_in, IsObject, Stands, IsSub, IsCovariant}
use Rattle.gql_cost.specs.Even.{IsEvenGroup, IsEven, AreEven}
use Rattle.gql_valid_laws.specs.Merge.{HaveOneName, MergeTo, Merge}
use Rattle.gql_cost.proofs.Alls.{all-both, all-kept, found-holds, all-map, all-turned, kept-has, found-has}
use Rattle.gql_cost.proofs.Standing.{named-item, stands-own, is-object, stands-fit}
use Rattle.gql_cost.proofs.Collected.{IsOn, flat-on}

module _ {X : Type 0} (r : Request X) (fragments_typed : AreFragmentsTyped r.schema r.fragments) (covariant : IsCovariant r.schema) where
  abbrev S : Schema
  S = r.schema

  abbrev w : World X ObjectType Group (List (List Selection))
  w = plain_world r

  -- ---- two fields of one key

  abbrev MergesTo : ℕ → ObjectType → List Selection → List Selection → Type 0
  MergesTo n V one other = MergeTo HaveOneName S r.fragments r.variables n V one other

  abbrev DoMerge : ObjectType → List Selection → List Selection → Type 0
  DoMerge V one other = Merge HaveOneName S r.fragments r.variables V one other

  -- what is selected below the two, on an object type that stands for the types of both
  abbrev Merges : Field → Field → Type 0
  Merges f g =
      (V : ObjectType) → Stands S V (named_type f.definition.ty).text → Stands S V (named_type g.definition.ty).text
      → DoMerge V f.selection_set.selections g.selection_set.selections

  abbrev Likes : Field → Field → Type 0
  Likes f g = response_key f ≡ response_key g → (f.name.text ≡ g.name.text) × Merges f g

  abbrev AreLike : List Field → List Field → Type 0
  AreLike fs gs = AllByRecursion (λ f. AllByRecursion (Likes f) gs) fs

  abbrev LikesTo : ℕ → Field → Field → Type 0
  LikesTo n f g =
      response_key f ≡ response_key g
      → (f.name.text ≡ g.name.text) × ((V : ObjectType) → Stands S V (named_type f.definition.ty).text → Stands S V (named_type g.definition.ty).text
      → MergesTo n V f.selection_set.selections g.selection_set.selections)

  merged-like : (T : ObjectType) (one other : List Selection) → DoMerge T one other → AreLike (flat (setting_on r T) one) (flat (setting_on r T) other)
  merged-like T one other merge =
      let us = flat (setting_on r T) one in
      let vs = flat (setting_on r T) other in
      all-map (λ f. (n : ℕ) → AllByRecursion (LikesTo n f) vs) (λ f. AllByRecursion (Likes f) vs)
      (λ f each.
      all-map (λ g. (n : ℕ) → LikesTo n f g) (Likes f) (λ g at same. ((at 0 same).0, λ V stands also n. (at n same).1 V stands also)) vs (all-turned (λ n g. LikesTo n f g) vs each))
      us (all-turned (λ n f. AllByRecursion (LikesTo n f) vs) us (λ n. merge (suc n)))

  -- ---- what is selected below a place

  abbrev IsTypedField : Field → Type 0
  IsTypedField f = AreTyped S (named_type f.definition.ty) f.selection_set.selections

  abbrev IsWide : TypeRef → Field → Type 0
  IsWide ty f = (V : ObjectType) → IsObject S V → Stands S V (named_type ty).text → Stands S V (named_type f.definition.ty).text

  record IsSound (ty : TypeRef) (fields : List Field) : Type 0 where
    pub typed : AllByRecursion IsTypedField fields
    pub wide : AllByRecursion (IsWide ty) fields
    pub merge : AllByRecursion (λ f. AllByRecursion (Merges f) fields) fields

  record IsSpotSound (spot : Spot Group) : Type 0 where
    pub fields : List Field
    pub pieces : spot.group.pieces ≡ pieces_of fields
    pub sound : IsSound spot.type fields

  -- sets that are collected on an object type
  record AreCollected (V : ObjectType) (sets : List (List Selection)) : Type 0 where
    pub on : AllByRecursion (IsOn r V) (flat_sets (setting_on r V) sets)
    pub like : AreLike (flat_sets (setting_on r V) sets) (flat_sets (setting_on r V) sets)

  like-none : (us : List Field) → AreLike us []
  like-none [] = tt
  like-none (u ∷ us) = (tt, like-none us)

  like-both : (us vs ws : List Field) → AreLike us vs → AreLike us ws → AreLike us (vs ++ ws)
  like-both [] vs ws p q = tt
  like-both (u ∷ us) vs ws p q = (all-both (Likes u) vs ws p.0 q.0, like-both us vs ws p.1 q.1)

  module _ (V : ObjectType) (object : IsObject S V) where
    pieces-on : (ty : TypeRef) (fields : List Field) → Stands S V (named_type ty).text → AllByRecursion IsTypedField fields → AllByRecursion (IsWide ty) fields
        → AllByRecursion (IsOn r V) (flat_sets (setting_on r V) (pieces_of fields))
    pieces-on ty [] stands typed wide = tt
    pieces-on ty (f ∷ fs) stands typed wide =
        all-both (IsOn r V) (flat (setting_on r V) f.selection_set.selections) (flat_sets (setting_on r V) (pieces_of fs))
        (flat-on r fragments_typed V f.selection_set.selections (named_type f.definition.ty) (wide.0 V object stands) typed.0)
        (pieces-on ty fs stands typed.1 wide.1)

    -- the fields of one set beside those of several
    module _ (ty : TypeRef) (stands : Stands S V (named_type ty).text) where
      beside : (f : Field) (fields : List Field) → IsWide ty f → AllByRecursion (IsWide ty) fields → AllByRecursion (Merges f) fields
          → AreLike (flat (setting_on r V) f.selection_set.selections) (flat_sets (setting_on r V) (pieces_of fields))
      beside f [] own wide merge = like-none (flat (setting_on r V) f.selection_set.selections)
      beside f (g ∷ gs) own wide merge =
          like-both (flat (setting_on r V) f.selection_set.selections) (flat (setting_on r V) g.selection_set.selections) (flat_sets (setting_on r V) (pieces_of gs))
          (merged-like V f.selection_set.selections g.selection_set.selections (merge.0 V (own V object stands) (wide.0 V object stands)))
          (beside f gs own wide.1 merge.1)

      pieces-like : (all fields : List Field) → AllByRecursion (IsWide ty) all → AllByRecursion (IsWide ty) fields
          → AllByRecursion (λ f. AllByRecursion (Merges f) all) fields
          → AreLike (flat_sets (setting_on r V) (pieces_of fields)) (flat_sets (setting_on r V) (pieces_of all))
      pieces-like all [] wide these merge = tt
      pieces-like all (f ∷ fs) wide these merge =
          all-both (λ h. AllByRecursion (Likes h) (flat_sets (setting_on r V) (pieces_of all)))
          (flat (setting_on r V) f.selection_set.selections) (flat_sets (setting_on r V) (pieces_of fs))
          (beside f all these.0 wide merge.0) (pieces-like all fs wide these.1 merge.1)

    sound-collected : (spot : Spot Group) → IsSpotSound spot → Stands S V (named_type spot.type).text → AreCollected V spot.group.pieces
    sound-collected spot it stands =
        subst (AreCollected V) (sym it.pieces) (record {
          on = pieces-on spot.type it.fields stands it.sound.typed it.sound.wide;
          like = pieces-like spot.type stands it.fields it.fields it.sound.wide it.sound.wide it.sound.merge;
        })

    -- ---- groups

    -- the own field of the type that a first field is
    abbrev own_type : Field → TypeRef
    own_type first = (definition_on S V first).ty

    module _ (all : List Field) (on : AllByRecursion (IsOn r V) all) (like : AreLike all all) where
      abbrev of_key : Text → List Field
      of_key k = filter (has_key k) all

      field-sub : (first f : Field) → IsOn r V f → f.name.text ≡ first.name.text → IsSub S f.definition.ty (own_type first)
      field-sub first f is same =
          let own = covariant V is.parent f.name.text f.definition object is.stands is.defined in
          let there : definition_on S V first ≡ own.0 =
          ap (λ o. unwrap_or o first.definition) (ap (field_of S V.name.text) (sym same) ∙ own.1) in
          subst (λ (d : FieldDefinition). IsSub S f.definition.ty d.ty) (sym there) own.2

      -- what is known of each field of a key beside the first
      record IsBeside (first f : Field) : Type 0 where
        pub stands_on : IsOn r V f
        pub sub : IsSub S f.definition.ty (own_type first)

      module _ (k : Text) (first : Field) (is : find (has_key k) all ≡ Some first) where
        same-key : (f g : Field) → has_key k f ≡ true → has_key k g ≡ true → response_key f ≡ response_key g
        same-key f g has got = sym (text-same k (response_key f) has) ∙ text-same k (response_key g) got

        beside-first : (fs : List Field) → AllByRecursion (IsOn r V) fs → AllByRecursion (λ f. AllByRecursion (Likes f) all) fs → AllByRecursion (λ f. has_key k f ≡ true) fs
            → AllByRecursion (IsBeside first) fs
        beside-first [] on like has = tt
        beside-first (f ∷ fs) on like has = (
          record {
            stands_on = on.0;
            sub = field-sub first f on.0 (found-holds (Likes f) (has_key k) all first like.0 is (same-key f first has.0 (found-has (has_key k) all first is))).0;
          },
          beside-first fs on.1 like.1 has.1,
        )

        all-beside : AllByRecursion (IsBeside first) (of_key k)
        all-beside = beside-first (of_key k) (all-kept (IsOn r V) (has_key k) all on) (all-kept (λ f. AllByRecursion (Likes f) all) (has_key k) all like) (kept-has (has_key k) all)

        even-at : AllByRecursion (λ (f : Field). lists_in f.definition.ty ≡ lists_in (own_type first)) (of_key k)
        even-at = all-map (IsBeside first) (λ f. lists_in f.definition.ty ≡ lists_in (own_type first)) (λ f it. sym it.sub.lists) (of_key k) all-beside

        merge-one : (f : Field) → has_key k f ≡ true → (fs : List Field) → AllByRecursion (Likes f) fs → AllByRecursion (λ g. has_key k g ≡ true) fs → AllByRecursion (Merges f) fs
        merge-one f has [] like got = tt
        merge-one f has (g ∷ gs) like got = ((like.0 (same-key f g has got.0)).1, merge-one f has gs like.1 got.1)

        merge-all : (fs : List Field) → AllByRecursion (λ f. has_key k f ≡ true) fs → AllByRecursion (λ f. AllByRecursion (Likes f) all) fs
            → AllByRecursion (λ f. AllByRecursion (Merges f) (of_key k)) fs
        merge-all [] has like = tt
        merge-all (f ∷ fs) has like =
            (merge-one f has.0 (of_key k) (all-kept (Likes f) (has_key k) all like.0) (kept-has (has_key k) all), merge-all fs has.1 like.1)

        key-sound : IsSound (own_type first) (of_key k)
        key-sound = record {
          typed = all-map (IsBeside first) IsTypedField (λ f it. it.stands_on.below) (of_key k) all-beside;
          wide = all-map (IsBeside first) (IsWide (own_type first)) (λ f it W is_object stands. it.sub.stands W is_object stands) (of_key k) all-beside;
          merge = merge-all (of_key k) (kept-has (has_key k) all) (all-kept (λ f. AllByRecursion (Likes f) all) (has_key k) all like);
        }

      -- ---- groups as execution takes them

      record IsGroupSound (g : FieldGroup) : Type 0 where
        pub even : IsEvenGroup r V g
        pub sound : (first : Field) → g.first ≡ Some first → IsSound (own_type first) g.fields

      keys-sound : (ks : List Text) → AllByRecursion IsGroupSound (map (group_at all) ks)
      keys-sound [] = tt
      keys-sound (k ∷ ks) = (record { even = λ first is. even-at k first is; sound = λ first is. key-sound k first is }, keys-sound ks)

      groups-sound : (p : FieldGroup → Bool) → AllByRecursion IsGroupSound (filter p (groups_of all))
      groups-sound p = all-kept IsGroupSound p (groups_of all) (keys-sound (keys all))

      -- the places of groups
      start-sound : (x : X) (outer : Trail) (o : Option Field) (fields : List Field) (rest : List Group)
          → ((first : Field) → o ≡ Some first → IsSound (own_type first) fields)
          → ((spot : Spot Group) (outcome : Outcome X) → IsAmong spot outcome (fields_of w V x outer rest) → IsSpotSound spot)
          → (spot : Spot Group) (outcome : Outcome X) → IsAmong spot outcome (fields_of w V x outer (started o fields ++ rest)) → IsSpotSound spot
      start-sound x outer None fields rest sound others spot outcome among = others spot outcome among
      start-sound x outer (Some f) fields rest sound others spot outcome (inl here) =
          subst IsSpotSound (sym here.0) (record { fields = fields; pieces = refl; sound = sound f refl })
      start-sound x outer (Some f) fields rest sound others spot outcome (inr later) = others spot outcome later

      spots-sound : (x : X) (outer : Trail) (gs : List FieldGroup) → AllByRecursion IsGroupSound gs
          → (spot : Spot Group) (outcome : Outcome X) → IsAmong spot outcome (fields_of w V x outer (groups_from gs)) → IsSpotSound spot
      spots-sound x outer [] each spot outcome among = absurd among
      spots-sound x outer (g ∷ gs) each spot outcome among =
          start-sound x outer g.first g.fields (groups_from gs) each.0.sound (spots-sound x outer gs each.1) spot outcome among

    collected-even : (sets : List (List Selection)) → AreCollected V sets → IsEven r V sets
    collected-even sets it =
        let all = flat_sets (setting_on r V) sets in
        all-map (IsGroupSound all it.on it.like) (IsEvenGroup r V) (λ g sound. sound.even) (applying (setting_on r V) sets)
        (groups-sound all it.on it.like (is_defined S V))

    collected-spots : (sets : List (List Selection)) → AreCollected V sets → (x : X) (outer : Trail) (spot : Spot Group) (outcome : Outcome X)
        → IsAmong spot outcome (fields_of w V x outer (plain r V sets)) → IsSpotSound spot
    collected-spots sets it x outer spot outcome among =
        let all = flat_sets (setting_on r V) sets in
        spots-sound all it.on it.like x outer (applying (setting_on r V) sets) (groups-sound all it.on it.like (is_defined S V)) spot outcome among

  -- ---- places that are reached

  module _ (root : ObjectType) (initial : X) (selections : List Selection) (object : IsObject S root) (collected : AreCollected root (selections ∷ [])) where
    item-sound : (list : Spot Group) (i : ℕ) → IsSpotSound list → IsSpotSound (item_spot list i)
    item-sound list i it = record {
      fields = it.fields;
      pieces = it.pieces;
      sound = record {
        typed = it.sound.typed;
        wide =
            subst (λ (name : Named). AllByRecursion (λ (f : Field). (V : ObjectType) → IsObject S V → Stands S V name.text → Stands S V (named_type f.definition.ty).text) it.fields)
            (sym (named-item list.type)) it.sound.wide;
        merge = it.sound.merge;
      };
    }

    items-sound : (list : Spot Group) (i : ℕ) (ms : Meanings X) → IsSpotSound list → (spot : Spot Group) (outcome : Outcome X) → IsAmong spot outcome (items_of list i ms)
        → IsSpotSound spot
    items-sound list i no_answer it spot outcome among = absurd among
    items-sound list i (answer_then m ms) it spot outcome (inl here) = subst IsSpotSound (sym here.0) (item-sound list i it)
    items-sound list i (answer_then m ms) it spot outcome (inr later) = items-sound list (i + 1) ms it spot outcome later

    -- the object that a place gives, where it fits
    at-object : (outer : Spot Group) (x : X) (V : ObjectType) → IsSpotSound outer → w.misfit outer.type (gives_object x) ≡ None → w.type_of x ≡ Some V
        → AreCollected V outer.group.pieces
    at-object outer x V it fits typed =
        sound-collected V (is-object S (r.type_of x) V typed) outer it (stands-fit S (r.type_of x) V typed outer.type fits)

    object-sound : (outer : Spot Group) (x : X) (o : Option ObjectType) → w.type_of x ≡ o → IsSpotSound outer → w.misfit outer.type (gives_object x) ≡ None
        → (spot : Spot Group) (outcome : Outcome X) → IsAmong spot outcome (fields_if w o x outer) → IsSpotSound spot
    object-sound outer x None typed it fits spot outcome among = absurd among
    object-sound outer x (Some V) typed it fits spot outcome among =
        collected-spots V (is-object S (r.type_of x) V typed) outer.group.pieces (at-object outer x V it fits typed) x (trail outer) spot outcome among

    inside-sound : (outer : Spot Group) (m : Meaning X) → IsSpotSound outer → w.misfit outer.type m ≡ None
        → (spot : Spot Group) (outcome : Outcome X) → IsAmong spot outcome (inside w outer m) → IsSpotSound spot
    inside-sound outer (gives_leaf v) it fits spot outcome among = absurd among
    inside-sound outer (gives_object x) it fits spot outcome among = object-sound outer x (w.type_of x) refl it fits spot outcome among
    inside-sound outer (gives_list ms) it fits spot outcome among = items-sound outer 0 ms it spot outcome among
    inside-sound outer gives_skip it fits spot outcome among = absurd among
    inside-sound outer (fails_with text) it fits spot outcome among = absurd among

    reached-sound : {spot : Spot Group} {outcome : Outcome X} → Reaches w root initial (selections ∷ []) spot outcome → IsSpotSound spot
    reached-sound {spot = spot} {outcome = outcome} (at_root among) = collected-spots root object (selections ∷ []) collected initial [] spot outcome among
    reached-sound {spot = spot} {outcome = outcome} (at_inside outer m reached fits among) = inside-sound outer m (reached-sound reached) fits spot outcome among

    are-even : AreEven r root initial selections
    are-even = record {
      at_root = collected-even root object (selections ∷ []) collected;
      below = λ spot x V reached fits typed.
          collected-even V (is-object S (r.type_of x) V typed) spot.group.pieces (at-object spot x V (reached-sound reached) fits typed);
    }

  -- a set on an object type of the schema
  pub set-even : (root : ObjectType) (initial : X) (ty : Named) (selections : List Selection) → object_of S ty.text ≡ Some root → AreTyped S ty selections
      → DoMerge root selections selections → AreEven r root initial selections
  set-even root initial ty selections is typed merge =
      let on = flat-on r fragments_typed root selections ty (stands-own S ty.text root is) typed in
      let like = merged-like root selections selections merge in
      are-even root initial selections (is-object S ty.text root is) (record {
        on = all-both (IsOn r root) (flat (setting_on r root) selections) [] on tt;
        like =
            all-both (λ f. AllByRecursion (Likes f) (flat_sets (setting_on r root) (selections ∷ []))) (flat (setting_on r root) selections) []
            (like-both-all (flat (setting_on r root) selections) (flat (setting_on r root) selections) like) tt;
      })
    where
      like-both-all : (us vs : List Field) → AreLike us vs → AllByRecursion (λ f. AllByRecursion (Likes f) (vs ++ [])) us
      like-both-all us vs like = like-both us vs [] like (like-none us)
