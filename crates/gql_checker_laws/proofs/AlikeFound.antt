-- Groups that are the same once repeated fields are left out are walked through alike.
use Rattle.std.proofs.Common.{◌≡◌, ℕ, zero, suc, ◌+◌, List, [], ◌∷◌, Option, Some, None, is_some, refl, sym, ap, ◌∙◌, subst}
use Rattle.std.specs.Prelude.{◌||◌, ◌&&◌}
use Rattle.std.specs.Str.{bytes_eq}
use Rattle.jb_tree.specs.declared.value.Value.{Value}
use Rattle.jb_tree.specs.Value.{object_members}
use Rattle.gql_ast_base.specs.TypeParts.{is_non_null}
use Rattle.gql_ast_base.specs.declared.type_ref.TypeRef.{TypeRef}
use Rattle.gql_collect.specs.Grouping.{groups_seen}
use Rattle.gql_collect.specs.Groups.{SameGroups, applying, response_name}
use Rattle.gql_collect.specs.Same.{SameFirst}
use Rattle.gql_collect.specs.declared.group.Group.{Group as FieldsOfKey}
use Rattle.gql_document_types.specs.declared.selection.Field.{Field as DocumentField}
use Rattle.gql_document_types.specs.declared.selection.Selection.{Selection}
use Rattle.gql_exec.proofs.Alike.{IsAlike, AreAlike, groups-alike, sets-alike}
use Rattle.gql_exec.proofs.Views.{views, views-from}
use Rattle.gql_exec.specs.Executed.{IsEnough}
use Rattle.gql_exec.specs.Group.{Group}
use Rattle.gql_exec.specs.Request.{Request}
use Rattle.gql_exec.specs.RequestWorld.{plain, plain_world, setting_on}
use Rattle.gql_resolvers.specs.Depth.{AllGroups, Suffices}
use Rattle.gql_resolvers.specs.Execute.{Member}
use Rattle.gql_resolvers.specs.Fault.{fault_at}
use Rattle.gql_resolvers.specs.Resolved.{Meaning, Meanings, gives_leaf, gives_object, gives_list, gives_skip, fails_with, no_answer, answer_then}
use Rattle.gql_resolvers.specs.Resolved.{Outcome, answered, refused}
use Rattle.gql_resolvers.specs.Spot.{Spot, trail, item_spot, field_spot}
use Rattle.gql_resolvers.specs.Trail.{Segment, Trail, path_of}
use Rattle.gql_resolvers.specs.World.{World}
use Rattle.gql_response.specs.declared.path.ResponseDataPathSegment.TheVariants.{Field, ListIndex}
use Rattle.gql_schema_types.specs.declared.types.ObjectType.{ObjectType}
use Rattle.gql_checker_laws.specs.Claims.{Claim, Found, both, nothing, share}
use Rattle.gql_checker_laws.specs.Walked.{WalksAs}
use Rattle.gql_checker_laws.specs.Walk.{Below, any_tells, told_here, fitting, first, behind, second, groups_found, is_none, items_found, kept_if, meaning_given, array_for, object_for, object_found, object_given, of_keys, outcome_found, same_keys, set_found, settled, settled_by, unless_idle, value_found}

module _ {X : Type 0} (r : Request X) where
  abbrev w : World X ObjectType Group (List (List Selection))
  w = plain_world r

  pub keys-alike : (gs hs : List Group) → AreAlike gs hs → (ms : List Member) → same_keys w gs ms ≡ same_keys w hs ms
  keys-alike [] [] alike ms = refl
  keys-alike [] (h ∷ hs) alike ms = absurd alike
  keys-alike (g ∷ gs) [] alike ms = absurd alike
  keys-alike (g ∷ gs) (h ∷ hs) alike [] = refl
  keys-alike (g ∷ gs) (h ∷ hs) alike (m ∷ ms) =
      ap (λ f. bytes_eq (response_name f).text m.0 && same_keys w gs ms) alike.0.0
      ∙ ap (λ b. bytes_eq (response_name h.first).text m.0 && b) (keys-alike gs hs alike.1 ms)

  of-keys-alike : (gs hs : List Group) → AreAlike gs hs → (o : Option (List Member)) → of_keys w gs o ≡ of_keys w hs o
  of-keys-alike gs hs alike None = refl
  of-keys-alike gs hs alike (Some ms) = ap (λ b. kept_if b ms) (keys-alike gs hs alike ms)

  pub object-alike : (gs hs : List Group) → AreAlike gs hs → (v : Option Value) → object_for w gs v ≡ object_for w hs v
  object-alike gs hs alike None = refl
  object-alike gs hs alike (Some u) = of-keys-alike gs hs alike (object_members u)

  -- a walk that does not see repeated sets
  abbrev IsBlind : Below w → Type 0
  IsBlind run =
      (U : ObjectType) (y : X) (outer : Trail) (ps qs : List (List Selection)) (ms : Option (List Member)) (cs : List Claim) → SameFirst ps qs
      → run U y outer ps ms cs ≡ run U y outer qs ms cs

  abbrev one : DocumentField → List (List Selection) → Group
  one f ps = record { first = f; pieces = ps }

  abbrev at : Trail → Segment → TypeRef → Group → Spot Group
  at around step ty g = record { around = around; step = step; type = ty; group = g }

  module _ (run : Below w) (blind : IsBlind run) where
    module _ (f : DocumentField) (ps qs : List (List Selection)) (same : SameFirst ps qs) where
      members-alike : (U : ObjectType) (v : Option Value) → object_for w (w.groups U ps) v ≡ object_for w (w.groups U qs) v
      members-alike U v = object-alike (plain r U ps) (plain r U qs) (sets-alike r U ps qs same) v

      found_object : (a : Trail) (s : Segment) (t : TypeRef) (x : X) (o : Option ObjectType) (v : Option Value) (cs : List Claim)
          → object_found w run (at a s t (one f ps)) x o v cs ≡ object_found w run (at a s t (one f qs)) x o v cs
      found_object a s t x None v cs = refl
      found_object a s t x (Some U) v cs =
          ap (λ ms. run U x ((s, t) ∷ a) ps ms cs) (members-alike U v) ∙ blind U x ((s, t) ∷ a) ps qs (object_for w (w.groups U qs) v) cs same

      given_object : (a : Trail) (s : Segment) (t : TypeRef) (o : Option ObjectType) (u : Value)
          → object_given w (at a s t (one f ps)) o u ≡ object_given w (at a s t (one f qs)) o u
      given_object a s t None u = refl
      given_object a s t (Some U) u = ap is_some (members-alike U (Some u))

      given_meaning : (a : Trail) (s : Segment) (t : TypeRef) (m : Meaning X) (u : Value) → meaning_given w (at a s t (one f ps)) m u ≡ meaning_given w (at a s t (one f qs)) m u
      given_meaning a s t (gives_leaf v) u = refl
      given_meaning a s t (gives_object x) u = given_object a s t (w.type_of x) u
      given_meaning a s t (gives_list ms) u = refl
      given_meaning a s t gives_skip u = refl
      given_meaning a s t (fails_with text) u = refl

      settled_alike : (a : Trail) (s : Segment) (t : TypeRef) (o : Outcome X) (v : Option Value) (cs : List Claim) (inner : Found)
          → settled w (at a s t (one f ps)) o v cs inner ≡ settled w (at a s t (one f qs)) o v cs inner
      settled_alike a s t (refused fault) None cs inner = refl
      settled_alike a s t (refused fault) (Some u) cs inner = refl
      settled_alike a s t (answered m) None cs inner = refl
      settled_alike a s t (answered m) (Some u) cs inner =
          let spot = at a s t (one f ps) in
          let fault = fault_at w spot (answered m) in
          ap (λ b. settled_by (any_tells w fault cs || inner.passes) (is_none (w.misfit t m) && b) (told_here w fault cs) (is_non_null t) (path_of (trail spot)) (Some u) inner) (given_meaning a s t m u)

      mutual
        found_value : (a : Trail) (s : Segment) (t : TypeRef) (m : Meaning X) (v : Option Value) (cs : List Claim)
            → value_found w run (at a s t (one f ps)) m v cs ≡ value_found w run (at a s t (one f qs)) m v cs
        found_value a s t (gives_leaf u) v cs = refl
        found_value a s t (gives_object x) v cs = found_object a s t x (w.type_of x) v cs
        found_value a s t (gives_list ms) v cs = found_items a s t 0 ms (array_for ms v) cs
        found_value a s t gives_skip v cs = refl
        found_value a s t (fails_with text) v cs = refl

        found_items : (a : Trail) (s : Segment) (t : TypeRef) (i : ℕ) (ms : Meanings X) (vs : Option (List Value)) (cs : List Claim)
            → items_found w run (at a s t (one f ps)) i ms vs cs ≡ items_found w run (at a s t (one f qs)) i ms vs cs
        found_items a s t i no_answer vs cs = refl
        found_items a s t i (answer_then m ms) vs cs =
            let it = item_spot (at a s t (one f ps)) i in
            let other = item_spot (at a s t (one f qs)) i in
            let own = share (ListIndex i) cs in
            ap (λ v. both (unless_idle (first vs) own (settled w it (answered m) (first vs) own (fitting w (w.misfit it.type m) v))) (items_found w run (at a s t (one f ps)) (i + 1) ms (behind vs) cs))
            (found_value it.around it.step it.type m (first vs) own)
            ∙ ap (λ here. both (unless_idle (first vs) own here) (items_found w run (at a s t (one f ps)) (i + 1) ms (behind vs) cs))
            (settled_alike it.around it.step it.type (answered m) (first vs) own (fitting w (w.misfit it.type m) (value_found w run other m (first vs) own)))
            ∙ ap (λ rest. both (unless_idle (first vs) own (settled w other (answered m) (first vs) own (fitting w (w.misfit it.type m) (value_found w run other m (first vs) own)))) rest)
            (found_items a s t (i + 1) ms (behind vs) cs)

      found_outcome : (a : Trail) (s : Segment) (t : TypeRef) (o : Outcome X) (v : Option Value) (cs : List Claim)
          → outcome_found w run (at a s t (one f ps)) o v cs ≡ outcome_found w run (at a s t (one f qs)) o v cs
      found_outcome a s t (refused fault) v cs = ap (unless_idle v cs) (settled_alike a s t (refused fault) v cs nothing)
      found_outcome a s t (answered m) v cs =
          ap (λ inner. unless_idle v cs (settled w (at a s t (one f ps)) (answered m) v cs (fitting w (w.misfit t m) inner))) (found_value a s t m v cs)
          ∙ ap (unless_idle v cs) (settled_alike a s t (answered m) v cs (fitting w (w.misfit t m) (value_found w run (at a s t (one f qs)) m v cs)))

    abbrev found_of : ObjectType → X → Trail → Option Value → List Claim → Group → Found
    found_of U x outer v cs g = outcome_found w run (field_spot w U outer g) (w.asks U x g) v (share (Field (w.name_of g)) cs)

    found_one : (U : ObjectType) (x : X) (outer : Trail) (v : Option Value) (cs : List Claim) (g h : Group) → IsAlike g h
        → found_of U x outer v cs g ≡ found_of U x outer v cs h
    found_one U x outer v cs g h alike =
        let here = field_spot w U outer g in
        found_outcome g.first g.pieces h.pieces alike.1 here.around here.step here.type (w.asks U x g) v (share (Field (w.name_of g)) cs)
        ∙ ap (λ f. found_of U x outer v cs (one f h.pieces)) alike.0

    pub found_groups : (U : ObjectType) (x : X) (outer : Trail) (gs hs : List Group) (ms : Option (List Member)) (cs : List Claim) → AreAlike gs hs
        → groups_found w run U x outer gs ms cs ≡ groups_found w run U x outer hs ms cs
    found_groups U x outer [] [] ms cs alike = refl
    found_groups U x outer [] (h ∷ hs) ms cs alike = absurd alike
    found_groups U x outer (g ∷ gs) [] ms cs alike = absurd alike
    found_groups U x outer (g ∷ gs) (h ∷ hs) ms cs alike =
        ap (λ f. both f (groups_found w run U x outer gs (behind ms) cs)) (found_one U x outer (second (first ms)) cs g h alike.0)
        ∙ ap (both (found_of U x outer (second (first ms)) cs h)) (found_groups U x outer gs hs (behind ms) cs alike.1)

  blind : (d : ℕ) → IsBlind (set_found w d)
  blind zero U y outer ps qs ms cs same = refl
  blind (suc d) U y outer ps qs ms cs same = found_groups (set_found w d) (blind d) U y outer (plain r U ps) (plain r U qs) ms cs (sets-alike r U ps qs same)

  -- ---- how deep is enough

  nothing-alike : (gs hs : List Group) → AreAlike gs hs → hs ≡ [] → gs ≡ []
  nothing-alike [] hs alike none = refl
  nothing-alike (g ∷ gs) [] alike none = absurd alike
  nothing-alike (g ∷ gs) (h ∷ hs) alike none = absurd (cc)

  abbrev IsAsDeep : ℕ → Type 0
  IsAsDeep d = (W : ObjectType) (ps qs : List (List Selection)) → SameFirst ps qs → Suffices w d W qs → Suffices w d W ps

  enough-alike : (d : ℕ) → IsAsDeep d → (gs hs : List Group) → AreAlike gs hs → AllGroups w (IsEnough w d) hs → AllGroups w (IsEnough w d) gs
  enough-alike d deep [] hs alike enough = tt
  enough-alike d deep (g ∷ gs) [] alike enough = absurd alike
  enough-alike d deep (g ∷ gs) (h ∷ hs) alike enough =
      (λ W. deep W g.pieces h.pieces alike.0.1 (enough.0 W), enough-alike d deep gs hs alike.1 enough.1)

  as-deep : (d : ℕ) → IsAsDeep d
  as-deep zero W ps qs same enough = nothing-alike (plain r W ps) (plain r W qs) (sets-alike r W ps qs same) enough
  as-deep (suc d) W ps qs same enough = enough-alike d (as-deep d) (plain r W ps) (plain r W qs) (sets-alike r W ps qs same) enough

  -- ---- collected groups

  alike-walks : (U : ObjectType) (gs : List Group) (sets : List (List Selection)) → AreAlike gs (w.groups U sets) → (depth : ℕ) → Suffices w depth U sets
      → WalksAs w depth U sets gs
  alike-walks U gs sets alike zero enough =
      let none : gs ≡ [] = nothing-alike gs (w.groups U sets) alike enough in
      record {
        depth = zero;
        enough = subst (AllGroups w (IsEnough w zero)) (sym none) tt;
        walks = λ x outer ms cs. ap (λ l. groups_found w (set_found w zero) U x outer l ms cs) none;
      }
  alike-walks U gs sets alike (suc d) enough = record {
    depth = d;
    enough = enough-alike d (as-deep d) gs (w.groups U sets) alike enough;
    walks = λ x outer ms cs. found_groups (set_found w d) (blind d) U x outer gs (w.groups U sets) ms cs alike;
  }

  module _ (U : ObjectType) (groups : List FieldsOfKey) (sets : List (List Selection)) (same : SameGroups (groups_seen groups) (applying (setting_on r U) sets)) where
    views-alike : AreAlike (views groups) (w.groups U sets)
    views-alike = subst (λ gs. AreAlike gs (w.groups U sets)) (views-from groups) (groups-alike same)

    pub views-walk : (depth : ℕ) → Suffices w depth U sets → WalksAs w depth U sets (views groups)
    views-walk depth enough = alike-walks U (views groups) sets views-alike depth enough

    pub views-members : (v : Option Value) → object_for w (views groups) v ≡ object_for w (w.groups U sets) v
    views-members v = object-alike (views groups) (w.groups U sets) views-alike v

    pub views-keys : (ms : List Member) → same_keys w (views groups) ms ≡ same_keys w (w.groups U sets) ms
    views-keys ms = keys-alike (views groups) (w.groups U sets) views-alike ms
