-- A path that the walk tells is the first bad one; and what holds for the walk to every depth.
use Rattle.std.proofs.Common.{◌≡◌, ℕ, zero, suc, ◌+◌, List, [], ◌∷◌, ◌++◌, Option, Some, None, true, refl, sym, subst, ap, ◌∙◌, inl, inr, ◌⊎◌}
use Rattle.std.specs.Prelude.{◌&&◌, not, is_some}
use Rattle.std.specs.Str.{bytes_eq}
use Rattle.std.proofs.lemmas.Slice.Eq.{bytes_eq-Decides}
use Rattle.jb_tree.specs.Value.{array_items, object_members, is_null}
use Rattle.jb_tree.specs.declared.value.Value.{Value}
use Rattle.jb_tree.specs.declared.value.Value.TheVariants as json
use Rattle.gql_ast_base.specs.TypeParts.{is_non_null}
use Rattle.gql_response.specs.declared.graphql_error.GraphQLError.{GraphQLError}
use Rattle.gql_response.specs.declared.path.ResponseDataPathSegment.TheVariants.{Field, ListIndex}
use Rattle.gql_resolvers.specs.Resolved.{Meaning, Meanings, gives_leaf, gives_object, gives_list, gives_skip, fails_with, no_answer, answer_then}
use Rattle.gql_resolvers.specs.Resolved.{Misfit, Outcome, answered, refused}
use Rattle.gql_resolvers.specs.World.{World, key_of, IsLawful}
use Rattle.gql_resolvers.specs.Depth.{AllGroups, Suffices}
use Rattle.gql_resolvers.specs.Trail.{Segment, Trail, path_of, shown, held}
use Rattle.gql_resolvers.specs.Spot.{Spot, trail, item_spot, field_spot}
use Rattle.gql_resolvers.specs.Execute.{Member}
use Rattle.gql_resolvers.specs.Reached.{IsAmong, items_of, fields_of, fields_if, Reaches, at_inside}
use Rattle.gql_resolvers.specs.Explained.{Holds, IsGood, FieldsAre}
use Rattle.gql_resolvers.specs.Explained.{no_field}
use Rattle.gql_checker_laws.specs.Bad.{Fits, null_fits, leaf_fits, list_fits, object_fits}
use Rattle.gql_checker_laws.specs.Bad.{FirstBad, in_list, in_object, FirstItem, item_bad, item_later, FirstField, field_bad, field_later}
use Rattle.gql_checker_laws.specs.Claims.{Claim, Found, nothing, share}
use Rattle.gql_checker_laws.specs.Identical.{is_identical}
use Rattle.gql_checker_laws.specs.Walk.{count, same_length, is_none, array_for, same_keys, object_for}
use Rattle.gql_checker_laws.specs.Walk.{object_given, meaning_given, is_given, comes, fitting, Below, object_found, value_found, items_found, inner_found, outcome_found, groups_found, set_found}
use Rattle.gql_checker_laws.proofs.Identical.{identical_decides}
use Rattle.gql_checker_laws.proofs.Parts.{and_both, and_made, none_is, none_made, some_is, first_some}
use Rattle.gql_checker_laws.proofs.Paths.{HasStep}
use Rattle.gql_checker_laws.proofs.Facts.{at_true, Aligned, Covers, CoversOn, covers_on, nothing_inner, whole_inner}
use Rattle.gql_checker_laws.proofs.WalkedPlaces.{Shown, fault_way, settled_bad, shows_null}
use Rattle.gql_checker_laws.proofs.Keyed.{names_keyed, keyed_names, object_is, object_found_for, no_keys, all_groups, array_is, array_found, long_counted, counted_long}
use Rattle.gql_checker_laws.proofs.Judge.{RunFacts, aligned_share, covers_share, inner_inner, outcome_good, groups_partial, groups_good, groups_fine}

module _ {X T G S : Type 0} (w : World X T G S) (root : T) (initial : X) (all : S) (lawful : IsLawful w) (K : GraphQLError → Type 0) where
  abbrev IsReached : Spot G → Outcome X → Type 0
  IsReached = Reaches w root initial all

  abbrev L : GraphQLError → Type 0
  L = Shown w root initial all lawful K

  abbrev On : Trail → List Claim → Type 0
  On = Aligned w root initial all K

  abbrev Good : Spot G → Outcome X → Value → Type 0
  Good = IsGood w root initial all L

  abbrev Bad : Spot G → Outcome X → Value → List Segment → Type 0
  Bad = FirstBad w root initial all L

  module _ (run : Below w) where
    -- ---- a path that is told is the first bad one

    -- what may stand at a place is held there or given
    fits_given : (spot : Spot G) (outcome : Outcome X) (u : Value) → Fits w root initial all L spot outcome u
        → (Holds w root initial all L (Some (trail spot)) × (u ≡ json.Null)) ⊎ (is_given w spot outcome u ≡ true)
    fits_given spot outcome u (null_fits h) = inl (h, refl)
    fits_given spot outcome u (leaf_fits {v = v} fits) =
        inr (and_made (is_none (w.misfit spot.type (gives_leaf v))) (is_identical v v) (none_made (w.misfit spot.type (gives_leaf v)) fits) ((identical_decides v v).1 refl))
    fits_given spot outcome u (list_fits {ms = ms} vs fits long) =
        inr (and_made (is_none (w.misfit spot.type (gives_list ms))) (is_some (array_for ms (Some (json.Array vs)))) (none_made (w.misfit spot.type (gives_list ms)) fits)
        (ap is_some (array_found ms vs (counted_long ms vs long))))
    fits_given spot outcome u (object_fits {x = x} members U fits typed same) =
        inr (and_made (is_none (w.misfit spot.type (gives_object x))) (object_given w spot (w.type_of x) (json.Object members)) (none_made (w.misfit spot.type (gives_object x)) fits)
        (subst (λ (o : Option T). object_given w spot o (json.Object members) ≡ true) (sym typed)
        (ap is_some (object_found_for w (w.groups U (w.below spot.group)) members (keyed_names w (w.groups U (w.below spot.group)) members same)))))

    place_shows : (spot : Spot G) (outcome : Outcome X) → RunFacts w root initial all lawful K run (w.below spot.group) → IsReached spot outcome → (u : Value) (cs : List Claim) → On (trail spot) cs
        → Covers w root initial all K (trail spot) cs → Fits w root initial all L spot outcome u
        → (((comes w spot outcome cs (inner_found w run spot outcome (Some u) cs) && not (is_non_null spot.type)) && is_null u) ≡ true) ⊎ (is_given w spot outcome u ≡ true)
    place_shows spot outcome r reached u cs a covers fits = by_case (fits_given spot outcome u fits) where
      inner : Found
      inner = inner_found w run spot outcome (Some u) cs

      by_case : (Holds w root initial all L (Some (trail spot)) × (u ≡ json.Null)) ⊎ (is_given w spot outcome u ≡ true)
          → (((comes w spot outcome cs inner && not (is_non_null spot.type)) && is_null u) ≡ true) ⊎ (is_given w spot outcome u ≡ true)
      by_case (inl h) = inl (subst (λ (y : Value). ((comes w spot outcome cs inner && not (is_non_null spot.type)) && is_null y) ≡ true) (sym h.1)
          (shows_null w root initial all lawful K spot outcome reached cs a inner (inner_inner w root initial all lawful K run spot outcome r reached (Some u) cs a) covers h.0))
      by_case (inr h) = inr h

    first_item : (list : Spot G) (i : ℕ) (m : Meaning X) (ms : Meanings X) (v : Value) (vs : List Value) (p : List Segment) (own rest : Option (List Segment))
        → (own ≡ Some p) ⊎ ((own ≡ None) × (rest ≡ Some p)) → (own ≡ None → Good (item_spot list i) (answered m) v)
        → (own ≡ Some p → Bad (item_spot list i) (answered m) v p) → (rest ≡ Some p → FirstItem w root initial all L list (i + 1) ms vs p)
        → FirstItem w root initial all L list i (answer_then m ms) (v ∷ vs) p
    first_item list i m ms v vs p own rest (inl h) good bad later = item_bad (bad h)
    first_item list i m ms v vs p own rest (inr h) good bad later = item_later (good h.0) (later h.1)

    first_field : (U : T) (x : X) (outer : Trail) (g : G) (gs : List G) (v : Value) (members : List Member) (p : List Segment) (own rest : Option (List Segment))
        → (own ≡ Some p) ⊎ ((own ≡ None) × (rest ≡ Some p)) → (own ≡ None → Good (field_spot w U outer g) (w.asks U x g) v)
        → (own ≡ Some p → Bad (field_spot w U outer g) (w.asks U x g) v p) → (rest ≡ Some p → FirstField w root initial all L U x outer gs members p)
        → FirstField w root initial all L U x outer (g ∷ gs) ((key_of w g, v) ∷ members) p
    first_field U x outer g gs v members p own rest (inl h) good bad later = field_bad (bad h)
    first_field U x outer g gs v members p own rest (inr h) good bad later = field_later (good h.0) (later h.1)

    object_worst : (spot : Spot G) (x : X) → RunFacts w root initial all lawful K run (w.below spot.group) → IsReached spot (answered (gives_object x)) → w.misfit spot.type (gives_object x) ≡ None
        → (u : Value) (cs : List Claim) (p : List Segment) → On (trail spot) cs → CoversOn w root initial all K (trail spot) cs → (o : Option T) → w.type_of x ≡ o → object_given w spot o u ≡ true
        → (object_found w run spot x o (Some u) cs).bad ≡ Some p → Bad spot (answered (gives_object x)) u p
    object_worst spot x r reached fits u cs p a covers None e given bad = absurd (cc)
    object_worst spot x r reached fits u cs p a covers (Some U) e given bad =
        let gs = w.groups U (w.below spot.group) in
        let found = some_is (object_for w gs (Some u)) given in
        let is = object_is w gs u (object_members u) found.0 refl found.1 in
        let some = subst (λ ms. (run U x (trail spot) (w.below spot.group) ms cs).bad ≡ Some p) found.1 bad in
        subst (λ (y : Value). Bad spot (answered (gives_object x)) y p) (sym is.0)
        (in_object found.0 U fits e (names_keyed w gs found.0 is.1)
        (r.worst U x (trail spot) found.0 cs p
        (λ q b h. at_inside spot (gives_object x) reached fits (subst (λ (o : Option T). IsAmong q b (fields_if w o x spot)) (sym e) h))
        a covers is.1 some))

    mutual
      value_worst : (spot : Spot G) (m : Meaning X) → RunFacts w root initial all lawful K run (w.below spot.group) → IsReached spot (answered m) → w.misfit spot.type m ≡ None
          → (u : Value) (cs : List Claim) (p : List Segment) → On (trail spot) cs → CoversOn w root initial all K (trail spot) cs → meaning_given w spot m u ≡ true
          → (value_found w run spot m (Some u) cs).bad ≡ Some p → Bad spot (answered m) u p
      value_worst spot (gives_leaf v) r reached fits u cs p a covers given bad = absurd (cc)
      value_worst spot (gives_object x) r reached fits u cs p a covers given bad = object_worst spot x r reached fits u cs p a covers (w.type_of x) refl given bad
      value_worst spot (gives_list ms) r reached fits u cs p a covers given bad =
          let found = some_is (array_for ms (Some u)) given in
          let is = array_is ms u (array_items u) found.0 refl found.1 in
          let some = subst (λ vs. (items_found w run spot 0 ms vs cs).bad ≡ Some p) found.1 bad in
          subst (λ (y : Value). Bad spot (answered (gives_list ms)) y p) (sym is.0)
          (in_list found.0 fits (long_counted ms found.0 is.1) (items_worst spot 0 ms r (λ q b h. at_inside spot (gives_list ms) reached fits h) found.0 cs p a covers is.1 some))
      value_worst spot gives_skip r reached fits u cs p a covers given bad = absurd (cc)
      value_worst spot (fails_with text) r reached fits u cs p a covers given bad = absurd (cc)

      items_worst : (list : Spot G) (i : ℕ) (ms : Meanings X) → RunFacts w root initial all lawful K run (w.below list.group) → ((q : Spot G) (b : Outcome X) → IsAmong q b (items_of list i ms) → IsReached q b)
          → (vs : List Value) (cs : List Claim) (p : List Segment) → On (trail list) cs → CoversOn w root initial all K (trail list) cs → same_length (count ms) vs ≡ true
          → (items_found w run list i ms (Some vs) cs).bad ≡ Some p → FirstItem w root initial all L list i ms vs p
      items_worst list i no_answer r reach vs cs p a covers long bad = absurd (cc)
      items_worst list i (answer_then m ms) r reach [] cs p a covers long bad = absurd (cc)
      items_worst list i (answer_then m ms) r reach (v ∷ vs) cs p a covers long bad =
          let it = item_spot list i in
          let own = share (ListIndex i) cs in
          let reached : IsReached it (answered m) = reach it (answered m) (inl (refl, refl)) in
          let aligned = aligned_share w root initial all lawful K (trail list) it cs refl a in
          let covered = covers_share w root initial all lawful K (trail list) it cs refl covers in
          let here = (outcome_found w run it (answered m) (Some v) own).bad in
          let rest = (items_found w run list (i + 1) ms (Some vs) cs).bad in
          first_item list i m ms v vs p here rest (first_some here rest p bad)
          (λ h. outcome_good w root initial all lawful K run it (answered m) r reached v own aligned h)
          (settled_bad w root initial all lawful K it (answered m) reached own aligned (inner_found w run it (answered m) (Some v) own)
          (inner_inner w root initial all lawful K run it (answered m) r reached (Some v) own aligned) v p
          (place_shows it (answered m) r reached v own aligned covered)
          (λ given some.
          let both = and_both (is_none (w.misfit it.type m)) (meaning_given w it m v) given in
          let fits = none_is (w.misfit it.type m) both.0 in
          value_worst it m r reached fits v own p aligned (covers_on w root initial all K (trail it) own covered) both.1
          (subst (λ (o : Option Misfit). (fitting w o (value_found w run it m (Some v) own)).bad ≡ Some p) fits some)))
          (λ h. items_worst list (i + 1) ms r (λ q b k. reach q b (inr k)) vs cs p a covers long h)

    outcome_worst : (spot : Spot G) (outcome : Outcome X) → RunFacts w root initial all lawful K run (w.below spot.group) → IsReached spot outcome → (u : Value) (cs : List Claim) (p : List Segment)
        → On (trail spot) cs → Covers w root initial all K (trail spot) cs → (outcome_found w run spot outcome (Some u) cs).bad ≡ Some p → Bad spot outcome u p
    outcome_worst spot (answered m) r reached u cs p a covers bad =
        settled_bad w root initial all lawful K spot (answered m) reached cs a (inner_found w run spot (answered m) (Some u) cs)
        (inner_inner w root initial all lawful K run spot (answered m) r reached (Some u) cs a) u p
        (place_shows spot (answered m) r reached u cs a covers)
        (λ given some.
        let both = and_both (is_none (w.misfit spot.type m)) (meaning_given w spot m u) given in
        let fits = none_is (w.misfit spot.type m) both.0 in
        value_worst spot m r reached fits u cs p a (covers_on w root initial all K (trail spot) cs covers) both.1
        (subst (λ (o : Option Misfit). (fitting w o (value_found w run spot m (Some u) cs)).bad ≡ Some p) fits some))
        bad
    outcome_worst spot (refused fault) r reached u cs p a covers bad =
        settled_bad w root initial all lawful K spot (refused fault) reached cs a nothing (inner_inner w root initial all lawful K run spot (refused fault) r reached (Some u) cs a) u p
        (place_shows spot (refused fault) r reached u cs a covers) (λ given some. absurd (cc)) bad

    groups_worst : (U : T) (x : X) (outer : Trail) (gs : List G) → AllGroups w (λ g. RunFacts w root initial all lawful K run (w.below g)) gs
        → ((q : Spot G) (b : Outcome X) → IsAmong q b (fields_of w U x outer gs) → IsReached q b)
        → (members : List Member) (cs : List Claim) (p : List Segment) → On outer cs → CoversOn w root initial all K outer cs → same_keys w gs members ≡ true
        → (groups_found w run U x outer gs (Some members) cs).bad ≡ Some p → FirstField w root initial all L U x outer gs members p
    groups_worst U x outer [] rs reach members cs p a covers same bad = absurd (cc)
    groups_worst U x outer (g ∷ gs) rs reach [] cs p a covers same bad = absurd (cc)
    groups_worst U x outer (g ∷ gs) rs reach (m ∷ ms) cs p a covers same bad =
        let spot = field_spot w U outer g in
        let own = share (Field (w.name_of g)) cs in
        let k = and_both (bytes_eq (key_of w g) m.0) (same_keys w gs ms) same in
        let key : key_of w g ≡ m.0 = (bytes_eq-Decides (key_of w g) m.0).0 k.0 in
        let reached = reach spot (w.asks U x g) (inl (refl, refl)) in
        let here = (outcome_found w run spot (w.asks U x g) (Some m.1) own).bad in
        let rest = (groups_found w run U x outer gs (Some ms) cs).bad in
        subst (λ (n : List ℕ). FirstField w root initial all L U x outer (g ∷ gs) ((n, m.1) ∷ ms) p) key
        (first_field U x outer g gs m.1 ms p here rest (first_some here rest p bad)
        (λ h. outcome_good w root initial all lawful K run spot (w.asks U x g) rs.0 reached m.1 own (aligned_share w root initial all lawful K outer spot cs refl a) h)
        (λ h. outcome_worst spot (w.asks U x g) rs.0 reached m.1 own p (aligned_share w root initial all lawful K outer spot cs refl a) (covers_share w root initial all lawful K outer spot cs refl covers) h)
        (λ h. groups_worst U x outer gs rs.1 (λ q b j. reach q b (inr j)) ms cs p a covers k.1 h))

  -- ---- selection sets, to a depth

  pub set_facts : (d : ℕ) (s : S) → ((U : T) → Suffices w d U s) → RunFacts w root initial all lawful K (set_found w d) s
  set_facts zero s enough = record {
    facts = λ U x outer ms cs reach closed a. nothing_inner w root initial all K (held outer) cs (λ c h t p q e.
        let at = at_true w root initial all K c.error t in
        subst (λ gs. HasStep p (fields_of w U x outer gs)) (enough U)
        (closed t.1.1.spot t.1.1.outcome t.1.1.reached p q
        (fault_way w root initial all lawful K c.error at.0 at.1 ∙ (a c h).0 ∙ ap (λ l. shown (path_of outer) ++ l) e)));
    good = λ U x outer members cs reach a same bad.
        let e = no_keys w members (subst (λ gs. same_keys w gs members ≡ true) (enough U) same) in
        subst (λ gs. FieldsAre w root initial all L U x outer gs members) (sym (enough U)) (subst (λ ms. FieldsAre w root initial all L U x outer [] ms) (sym e) no_field);
    fine = λ U x outer members cs reach a covers fields. refl;
    worst = λ U x outer members cs p reach a covers same bad. absurd (cc);
  }
  set_facts (suc d) s enough = record {
    facts = λ U x outer ms cs reach closed a.
        whole_inner w root initial all K (held outer) (fields_of w U x outer (w.groups U s)) cs (groups_found w (set_found w d) U x outer (w.groups U s) ms cs)
        (λ c h t p q e.
        let at = at_true w root initial all K c.error t in
        closed t.1.1.spot t.1.1.outcome t.1.1.reached p q
        (fault_way w root initial all lawful K c.error at.0 at.1 ∙ (a c h).0 ∙ ap (λ l. shown (path_of outer) ++ l) e))
        (groups_partial w root initial all lawful K (set_found w d) U x outer (w.groups U s) (below U (λ g h. set_facts d (w.below g) h)) reach ms cs a);
    good = λ U x outer members cs reach a same bad. groups_good w root initial all lawful K (set_found w d) U x outer (w.groups U s) (below U (λ g h. set_facts d (w.below g) h)) reach members cs a same bad;
    fine = λ U x outer members cs reach a covers fields. groups_fine w root initial all lawful K (set_found w d) (below U (λ g h. set_facts d (w.below g) h)) reach cs a covers fields;
    worst = λ U x outer members cs p reach a covers same bad.
        groups_worst (set_found w d) U x outer (w.groups U s) (below U (λ g h. set_facts d (w.below g) h)) reach members cs p a covers same bad;
  } where
    below : (U : T) → ((g : G) → ((W : T) → Suffices w d W (w.below g)) → RunFacts w root initial all lawful K (set_found w d) (w.below g)) → AllGroups w (λ g. RunFacts w root initial all lawful K (set_found w d) (w.below g)) (w.groups U s)
    below U each = all_groups w (λ g. (W : T) → Suffices w d W (w.below g)) (λ g. RunFacts w root initial all lawful K (set_found w d) (w.below g)) (w.groups U s) each (enough U)
