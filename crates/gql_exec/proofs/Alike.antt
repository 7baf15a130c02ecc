-- Groups that are the same once repeated fields are left out are executed alike.
use Rattle.std.proofs.Common.{◌≡◌, ℕ, zero, suc, ◌+◌, List, [], ◌∷◌, ◌++◌, Option, Some, None, refl, sym, ap, ◌∙◌, subst}
use Rattle.std.specs.List.{AllByRecursion}
use Rattle.jb_tree.specs.declared.value.Value.{Value}
use Rattle.gql_ast_base.specs.declared.type_ref.TypeRef.{TypeRef}
use Rattle.gql_document_types.specs.declared.selection.Field.{Field}
use Rattle.gql_document_types.specs.declared.selection.Selection.{Selection}
use Rattle.gql_schema_types.specs.declared.types.ObjectType.{ObjectType}
use Rattle.gql_collect.specs.Flat.{flat, flat_sets}
use Rattle.gql_collect.specs.Groups.{response_name, FieldGroup, SameGroups, none_same, one_same, applying}
use Rattle.gql_collect.specs.Same.{SameFirst}
use Rattle.gql_collect.proofs.GroupFacts.{groups-same, defined-same}
use Rattle.gql_collect.proofs.SameFacts.{same-map, same-flat_map}
use Rattle.gql_resolvers.specs.Resolved.{Meaning, Meanings, gives_leaf, gives_object, gives_list, gives_skip, fails_with, no_answer, answer_then}
use Rattle.gql_resolvers.specs.Resolved.{Outcome, answered, refused}
use Rattle.gql_resolvers.specs.Depth.{AllGroups, Suffices}
use Rattle.gql_resolvers.specs.World.{World, key_of, DistinctKeys}
use Rattle.gql_resolvers.specs.Trail.{Segment, Trail}
use Rattle.gql_resolvers.specs.Spot.{Spot, item_spot, field_spot}
use Rattle.gql_resolvers.specs.Execute.{Made, Member, then_rest, settled, unless_misfit}
use Rattle.gql_resolvers.specs.Execute.{one_array, one_object, with_key, Below, object_made, value_made, items_made, field_made, groups_made, execute}
use Rattle.gql_exec.specs.Group.{Group, piece_of, started, groups_from}
use Rattle.gql_exec.specs.Request.{Request}
use Rattle.gql_exec.specs.RequestWorld.{setting_on, plain, plain_world}
use Rattle.gql_exec.specs.Runs.{RunsAs}
use Rattle.gql_exec.proofs.Lawful.{lawful}

abbrev pub IsAlike : Group → Group → Type 0
IsAlike g h = (g.first ≡ h.first) × SameFirst g.pieces h.pieces

abbrev pub AreAlike : List Group → List Group → Type 0
AreAlike [] [] = Unit {0}
AreAlike [] (h ∷ hs) = ⊥
AreAlike (g ∷ gs) [] = ⊥
AreAlike (g ∷ gs) (h ∷ hs) = IsAlike g h × AreAlike gs hs

alike-started : (o : Option Field) (fs hs : List Field) (gs rest : List Group) → SameFirst fs hs → AreAlike gs rest → AreAlike (started o fs ++ gs) (started o hs ++ rest)
alike-started None fs hs gs rest same others = others
alike-started (Some f) fs hs gs rest same others = ((refl, same-map piece_of fs hs same), others)

pub groups-alike : {gs hs : List FieldGroup} → SameGroups gs hs → AreAlike (groups_from gs) (groups_from hs)
groups-alike none_same = tt
groups-alike (one_same {g = g} {h = h} {gs = gs} {hs = hs} key first fields rest) =
    subst (λ o. AreAlike (groups_from (g ∷ gs)) (started o h.fields ++ groups_from hs)) first
    (alike-started g.first g.fields h.fields (groups_from gs) (groups_from hs) fields (groups-alike rest))

module _ {X : Type 0} (r : Request X) where
  abbrev w : World X ObjectType Group (List (List Selection))
  w = plain_world r

  pub sets-alike : (U : ObjectType) (ps qs : List (List Selection)) → SameFirst ps qs → AreAlike (plain r U ps) (plain r U qs)
  sets-alike U ps qs same =
      let s = setting_on r U in
      groups-alike (defined-same r.schema U (groups-same (flat_sets s ps) (flat_sets s qs) (same-flat_map (flat s) ps qs same)))

  -- a run that does not see repeated sets
  abbrev IsBlind : Below w → Type 0
  IsBlind run = (U : ObjectType) (y : X) (outer : Trail) (ps qs : List (List Selection)) → SameFirst ps qs → run U y outer ps ≡ run U y outer qs

  abbrev one : Field → List (List Selection) → Group
  one f ps = record { first = f; pieces = ps }

  abbrev at : Trail → Segment → TypeRef → Group → Spot Group
  at around step ty g = record { around = around; step = step; type = ty; group = g }

  module _ (run : Below w) (blind : IsBlind run) where
    module _ (f : Field) (ps qs : List (List Selection)) (same : SameFirst ps qs) where
      alike_object : (a : Trail) (s : Segment) (t : TypeRef) (x : X) (o : Option ObjectType)
          → object_made w run (at a s t (one f ps)) x o ≡ object_made w run (at a s t (one f qs)) x o
      alike_object a s t x None = refl
      alike_object a s t x (Some U) = ap one_object (blind U x ((s, t) ∷ a) ps qs same)

      mutual
        alike_value : (a : Trail) (s : Segment) (t : TypeRef) (m : Meaning X) → value_made w run (at a s t (one f ps)) m ≡ value_made w run (at a s t (one f qs)) m
        alike_value a s t (gives_leaf v) = refl
        alike_value a s t (gives_object x) = alike_object a s t x (w.type_of x)
        alike_value a s t (gives_list ms) = ap one_array (alike_items a s t 0 ms)
        alike_value a s t gives_skip = refl
        alike_value a s t (fails_with text) = refl

        alike_items : (a : Trail) (s : Segment) (t : TypeRef) (i : ℕ) (ms : Meanings X)
            → items_made w run (at a s t (one f ps)) i ms ≡ items_made w run (at a s t (one f qs)) i ms
        alike_items a s t i no_answer = refl
        alike_items a s t i (answer_then m ms) =
            let it = item_spot (at a s t (one f ps)) i in
            let other = item_spot (at a s t (one f qs)) i in
            ap (λ (v : Made Value). then_rest (settled it (unless_misfit w it (w.misfit it.type m) v)) (items_made w run (at a s t (one f ps)) (i + 1) ms)) (alike_value it.around it.step it.type m)
            ∙ ap (λ (rest : Made Value). then_rest (settled other (unless_misfit w other (w.misfit other.type m) (value_made w run other m))) rest) (alike_items a s t (i + 1) ms)

      alike_field : (a : Trail) (s : Segment) (t : TypeRef) (outcome : Outcome X) → field_made w run (at a s t (one f ps)) outcome ≡ field_made w run (at a s t (one f qs)) outcome
      alike_field a s t (answered m) =
          ap (λ (v : Made Value). settled (at a s t (one f ps)) (unless_misfit w (at a s t (one f ps)) (w.misfit t m) v)) (alike_value a s t m)
      alike_field a s t (refused fault) = refl

    abbrev made_of : ObjectType → X → Trail → Group → Made Member
    made_of U x outer g = with_key (key_of w g) (field_made w run (field_spot w U outer g) (w.asks U x g))

    alike_one : (U : ObjectType) (x : X) (outer : Trail) (g h : Group) → IsAlike g h → made_of U x outer g ≡ made_of U x outer h
    alike_one U x outer g h alike =
        let here = field_spot w U outer g in
        ap (with_key (key_of w g)) (alike_field g.first g.pieces h.pieces alike.1 here.around here.step here.type (w.asks U x g))
        ∙ ap (λ f. made_of U x outer (one f h.pieces)) alike.0

    pub alike_groups : (U : ObjectType) (x : X) (outer : Trail) (gs hs : List Group) → AreAlike gs hs → groups_made w run U x outer gs ≡ groups_made w run U x outer hs
    alike_groups U x outer [] [] alike = refl
    alike_groups U x outer [] (h ∷ hs) alike = absurd alike
    alike_groups U x outer (g ∷ gs) [] alike = absurd alike
    alike_groups U x outer (g ∷ gs) (h ∷ hs) alike =
        ap (λ (v : Made Member). then_rest v (groups_made w run U x outer gs)) (alike_one U x outer g h alike.0)
        ∙ ap (λ (rest : Made Member). then_rest (made_of U x outer h) rest) (alike_groups U x outer gs hs alike.1)

  pub blind : (d : ℕ) → IsBlind (execute w d)
  blind zero U y outer ps qs same = refl
  blind (suc d) U y outer ps qs same = alike_groups (execute w d) (blind d) U y outer (plain r U ps) (plain r U qs) (sets-alike U ps qs same)

  -- ---- how deep is enough

  nothing-alike : (gs hs : List Group) → AreAlike gs hs → hs ≡ [] → gs ≡ []
  nothing-alike [] hs alike none = refl
  nothing-alike (g ∷ gs) [] alike none = absurd alike
  nothing-alike (g ∷ gs) (h ∷ hs) alike none = cc

  abbrev IsEnough : ℕ → Group → Type 0
  IsEnough d g = (W : ObjectType) → Suffices w d W (w.below g)

  -- sets for which a depth is enough where it is for others
  abbrev IsAsDeep : ℕ → Type 0
  IsAsDeep d = (W : ObjectType) (ps qs : List (List Selection)) → SameFirst ps qs → Suffices w d W qs → Suffices w d W ps

  enough-alike : (d : ℕ) → IsAsDeep d → (gs hs : List Group) → AreAlike gs hs → AllGroups w (IsEnough d) hs → AllGroups w (IsEnough d) gs
  enough-alike d deep [] hs alike enough = tt
  enough-alike d deep (g ∷ gs) [] alike enough = absurd alike
  enough-alike d deep (g ∷ gs) (h ∷ hs) alike enough =
      (λ W. deep W g.pieces h.pieces alike.0.1 (enough.0 W), enough-alike d deep gs hs alike.1 enough.1)

  as-deep : (d : ℕ) → IsAsDeep d
  as-deep zero W ps qs same enough = nothing-alike (plain r W ps) (plain r W qs) (sets-alike W ps qs same) enough
  as-deep (suc d) W ps qs same enough = enough-alike d (as-deep d) (plain r W ps) (plain r W qs) (sets-alike W ps qs same) enough

  -- ---- keys

  others-alike : (k : List ℕ) (gs hs : List Group) → AreAlike gs hs → AllByRecursion (λ h. ¬ (k ≡ key_of w h)) hs → AllByRecursion (λ h. ¬ (k ≡ key_of w h)) gs
  others-alike k [] hs alike all = tt
  others-alike k (g ∷ gs) [] alike all = absurd alike
  others-alike k (g ∷ gs) (h ∷ hs) alike all =
      (λ same. all.0 (same ∙ ap (λ f. (response_name f).text) alike.0.0), others-alike k gs hs alike.1 all.1)

  distinct-alike : (gs hs : List Group) → AreAlike gs hs → DistinctKeys w hs → DistinctKeys w gs
  distinct-alike [] hs alike apart = tt
  distinct-alike (g ∷ gs) [] alike apart = absurd alike
  distinct-alike (g ∷ gs) (h ∷ hs) alike apart = (
    others-alike (key_of w g) gs hs alike.1 (subst (λ f. AllByRecursion (λ i. ¬ ((response_name f).text ≡ key_of w i)) hs) (sym alike.0.0) apart.0),
    distinct-alike gs hs alike.1 apart.1,
  )

  -- ---- collected groups

  pub collected-distinct : (U : ObjectType) (gs : List FieldGroup) (sets : List (List Selection)) → SameGroups gs (applying (setting_on r U) sets)
      → DistinctKeys w (groups_from gs)
  collected-distinct U gs sets same = distinct-alike (groups_from gs) (w.groups U sets) (groups-alike same) ((lawful r).distinct_keys U sets)

  pub collected-runs : (U : ObjectType) (gs : List FieldGroup) (sets : List (List Selection)) → SameGroups gs (applying (setting_on r U) sets)
      → (depth : ℕ) → Suffices w depth U sets → RunsAs w depth U sets (groups_from gs)
  collected-runs U gs sets same zero enough =
      let none : groups_from gs ≡ [] = nothing-alike (groups_from gs) (w.groups U sets) (groups-alike same) enough in
      record {
        depth = zero;
        enough = subst (AllGroups w (IsEnough zero)) (sym none) tt;
        runs = λ x outer. sym (ap (groups_made w (execute w zero) U x outer) none);
      }
  collected-runs U gs sets same (suc d) enough = record {
    depth = d;
    enough = enough-alike d (as-deep d) (groups_from gs) (w.groups U sets) (groups-alike same) enough;
    runs = λ x outer. sym (alike_groups (execute w d) (blind d) U x outer (groups_from gs) (w.groups U sets) (groups-alike same));
  }
