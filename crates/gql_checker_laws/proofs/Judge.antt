-- What the walk finds at a place, and below it: which errors are true, and that data are good where no bad path is found.
use Rattle.std.proofs.Common.{◌≡◌, ℕ, ◌+◌, List, [], ◌∷◌, ◌++◌, Option, Some, None, true, refl, sym, subst, ap, ◌∙◌, inl, inr, append_assoc}
use Rattle.std.specs.Prelude.{is_some}
use Rattle.std.specs.Str.{bytes_eq}
use Rattle.std.proofs.lemmas.Slice.Eq.{bytes_eq-Decides}
use Rattle.jb_tree.specs.Value.{array_items, object_members}
use Rattle.jb_tree.specs.declared.value.Value.{Value}
use Rattle.jb_tree.specs.declared.value.Value.TheVariants as json
use Rattle.gql_response.specs.Held.{unplaced_segment}
use Rattle.gql_response.specs.declared.graphql_error.GraphQLError.{GraphQLError}
use Rattle.gql_response.specs.declared.path.ResponseDataPathSegment.TheVariants.{Field, ListIndex}
use Rattle.gql_resolvers.specs.Resolved.{Meaning, Meanings, gives_leaf, gives_object, gives_list, gives_skip, fails_with, no_answer, answer_then}
use Rattle.gql_resolvers.specs.Resolved.{Fault, Misfit, Outcome, answered, refused}
use Rattle.gql_resolvers.specs.World.{World, key_of, IsLawful}
use Rattle.gql_resolvers.specs.Depth.{AllGroups}
use Rattle.gql_resolvers.specs.Trail.{Segment, Trail, path_of, shown, held}
use Rattle.gql_resolvers.specs.Spot.{Spot, trail, item_spot, field_spot}
use Rattle.gql_resolvers.specs.Execute.{Member}
use Rattle.gql_resolvers.specs.Reached.{IsAmong, items_of, fields_of, fields_if, inside, Reaches, at_inside}
use Rattle.gql_resolvers.specs.Explained.{IsGood, ItemsAre, FieldsAre, null_held, leaf_kept, list_kept, object_kept}
use Rattle.gql_resolvers.specs.Explained.{no_item, item_good, no_field, field_good}
use Rattle.gql_checker_laws.specs.Bad.{FirstBad, FirstField}
use Rattle.gql_checker_laws.specs.Claims.{Claim, Found, nothing, share}
use Rattle.gql_checker_laws.specs.Identical.{is_identical}
use Rattle.gql_checker_laws.specs.Walk.{count, same_length, first, behind, second, is_none, unless_idle, array_for, same_keys, object_for}
use Rattle.gql_checker_laws.specs.Walk.{object_given, meaning_given, settled, fitting, Below, object_found, value_found, items_found, inner_found, outcome_found, groups_found}
use Rattle.gql_checker_laws.proofs.Identical.{identical_decides}
use Rattle.gql_checker_laws.proofs.Parts.{and_both, and_made, none_is, none_made, some_is, first_none, none_first}
use Rattle.gql_checker_laws.proofs.Paths.{HasStep, way_to, way_end, within}
use Rattle.gql_checker_laws.proofs.Portions.{In, stepped, from_share, to_share}
use Rattle.gql_checker_laws.proofs.Facts.{IsTrue, at_true, Aligned, Covers, CoversOn, covers_on, Facts, Inner, Partial, NoneGoes, nothing_inner, nothing_partial, idle_facts, child_partial, whole_inner}
use Rattle.gql_checker_laws.proofs.WalkedPlaces.{Shown, fault_way, settled_facts, settled_good, kept_bad, null_bad}
use Rattle.gql_checker_laws.proofs.Keyed.{key_refl, object_is, object_found_for, array_is, array_found}

module _ {X T G S : Type 0} (w : World X T G S) (root : T) (initial : X) (all : S) (lawful : IsLawful w) (K : GraphQLError → Type 0) where
  abbrev pub IsReached : Spot G → Outcome X → Type 0
  IsReached = Reaches w root initial all

  abbrev pub L : GraphQLError → Type 0
  L = Shown w root initial all lawful K

  abbrev pub On : Trail → List Claim → Type 0
  On = Aligned w root initial all K

  abbrev pub Good : Spot G → Outcome X → Value → Type 0
  Good = IsGood w root initial all L

  abbrev pub Bad : Spot G → Outcome X → Value → List Segment → Type 0
  Bad = FirstBad w root initial all L

  abbrev pub In_it : Option Trail → List Claim → Found → Type 0
  In_it = Inner w root initial all K

  -- ---- what is selected below a group

  pub record RunFacts (run : Below w) (s : S) : Type 0 where
    pub facts : (U : T) (x : X) (outer : Trail) (ms : Option (List Member)) (cs : List Claim)
        → ((q : Spot G) (a : Outcome X) → IsAmong q a (fields_of w U x outer (w.groups U s)) → IsReached q a)
        → ((q : Spot G) (b : Outcome X) → IsReached q b → (t : Segment) (r : List Segment) → way_to q ≡ shown (path_of outer) ++ t ∷ r → HasStep t (fields_of w U x outer (w.groups U s)))
        → On outer cs → In_it (held outer) cs (run U x outer s ms cs)
    pub good : (U : T) (x : X) (outer : Trail) (members : List Member) (cs : List Claim)
        → ((q : Spot G) (a : Outcome X) → IsAmong q a (fields_of w U x outer (w.groups U s)) → IsReached q a)
        → On outer cs → same_keys w (w.groups U s) members ≡ true → (run U x outer s (Some members) cs).bad ≡ None
        → FieldsAre w root initial all L U x outer (w.groups U s) members
    pub fine : (U : T) (x : X) (outer : Trail) (members : List Member) (cs : List Claim)
        → ((q : Spot G) (a : Outcome X) → IsAmong q a (fields_of w U x outer (w.groups U s)) → IsReached q a)
        → On outer cs → CoversOn w root initial all K outer cs → FieldsAre w root initial all L U x outer (w.groups U s) members
        → (run U x outer s (Some members) cs).bad ≡ None
    pub worst : (U : T) (x : X) (outer : Trail) (members : List Member) (cs : List Claim) (p : List Segment)
        → ((q : Spot G) (a : Outcome X) → IsAmong q a (fields_of w U x outer (w.groups U s)) → IsReached q a)
        → On outer cs → CoversOn w root initial all K outer cs → same_keys w (w.groups U s) members ≡ true → (run U x outer s (Some members) cs).bad ≡ Some p
        → FirstField w root initial all L U x outer (w.groups U s) members p

  step_along : (outer : Trail) (p : Spot G) (q : List Segment) → p.around ≡ outer → shown (path_of outer) ++ unplaced_segment p.step ∷ q ≡ way_to p ++ q
  step_along outer p q e =
      ap (λ (t : Trail). shown (path_of t) ++ unplaced_segment p.step ∷ q) (sym e)
      ∙ sym (append_assoc (shown (path_of p.around)) (unplaced_segment p.step ∷ []) q)
      ∙ ap (λ l. l ++ q) (sym (way_end p))

  pub aligned_share : (outer : Trail) (p : Spot G) (cs : List Claim) → p.around ≡ outer → On outer cs → On (trail p) (share p.step cs)
  aligned_share outer p cs e a c h =
      let o = from_share p.step c cs h in
      let k = a o.whole o.there in
      let path : shown o.whole.error.path ≡ way_to p ++ shown c.rest =
      k.0 ∙ ap (λ l. shown (path_of outer) ++ l) o.rest ∙ step_along outer p (shown c.rest) e in
      (ap (λ (x : GraphQLError). shown x.path) (sym o.error) ∙ path, subst K o.error k.1)

  pub covers_share : (outer : Trail) (p : Spot G) (cs : List Claim) → p.around ≡ outer → CoversOn w root initial all K outer cs → Covers w root initial all K (trail p) (share p.step cs)
  covers_share outer p cs e k x l r path =
      let c = k x l (unplaced_segment p.step) r (path ∙ sym (step_along outer p r e)) in
      let goes = to_share p.step c.0 cs r c.1 c.3 in
      (stepped c.0 goes.rest, goes.there, c.2, goes.shows)

  same_answer : (m n : Meaning X) → answered m ≡ answered n → m ≡ n
  same_answer m n e = cc

  -- a true fault farther in is inside what the place gives
  true_within : (spot : Spot G) (outcome : Outcome X) → IsReached spot outcome → (cs : List Claim) → On (trail spot) cs → (c : Claim) → In c cs → (t : IsTrue w root initial all K c.error)
      → (s : Segment) (q : List Segment) → shown c.rest ≡ s ∷ q → way_to t.1.1.spot ≡ way_to spot ++ s ∷ q
  true_within spot outcome reached cs a c h t s q e =
      let at = at_true w root initial all K c.error t in
      fault_way w root initial all lawful K c.error at.0 at.1 ∙ (a c h).0 ∙ ap (λ l. way_to spot ++ l) e

  inside_step : (spot : Spot G) (m : Meaning X) → IsReached spot (answered m) → (cs : List Claim) → On (trail spot) cs → (c : Claim) → In c cs → IsTrue w root initial all K c.error
      → (s : Segment) (q : List Segment) → shown c.rest ≡ s ∷ q → HasStep s (inside w spot m) × (w.misfit spot.type m ≡ None)
  inside_step spot m reached cs a c h t s q e =
      let i = within w root initial all lawful t.1.1.reached spot (answered m) reached s q (true_within spot (answered m) reached cs a c h t s q e) in
      let same : i.meaning ≡ m = sym (same_answer m i.meaning i.is) in
      (subst (λ (n : Meaning X). HasStep s (inside w spot n)) same i.step, subst (λ (n : Meaning X). w.misfit spot.type n ≡ None) same i.fits)

  none_inside : (spot : Spot G) (m : Meaning X) → IsReached spot (answered m) → inside w spot m ≡ [] → (cs : List Claim) → On (trail spot) cs → NoneGoes w root initial all K cs
  none_inside spot m reached empty cs a c h t s q e = subst (λ ps. HasStep s ps) empty (inside_step spot m reached cs a c h t s q e).0

  none_misfit : (spot : Spot G) (m : Meaning X) → IsReached spot (answered m) → (misfit : Misfit) → w.misfit spot.type m ≡ Some misfit → (cs : List Claim) → On (trail spot) cs
      → NoneGoes w root initial all K cs
  none_misfit spot m reached misfit is cs a c h t s q e =
      let wrong : None ≡ Some misfit = sym (inside_step spot m reached cs a c h t s q e).1 ∙ is in
      cc

  none_refused : (spot : Spot G) (fault : Fault) → IsReached spot (refused fault) → (cs : List Claim) → On (trail spot) cs → NoneGoes w root initial all K cs
  none_refused spot fault reached cs a c h t s q e =
      let i = within w root initial all lawful t.1.1.reached spot (refused fault) reached s q (true_within spot (refused fault) reached cs a c h t s q e) in
      let wrong : refused fault ≡ answered i.meaning = i.is in
      cc

  fitting_inner : (spot : Spot G) (m : Meaning X) → IsReached spot (answered m) → (cs : List Claim) → On (trail spot) cs → (f : Found)
      → (w.misfit spot.type m ≡ None → In_it (held (trail spot)) cs f) → (o : Option Misfit) → w.misfit spot.type m ≡ o → In_it (held (trail spot)) cs (fitting w o f)
  fitting_inner spot m reached cs a f facts None e = facts e
  fitting_inner spot m reached cs a f facts (Some misfit) e = nothing_inner w root initial all K (held (trail spot)) cs (none_misfit spot m reached misfit e cs a)

  module _ (run : Below w) where
    object_inner : (spot : Spot G) (x : X) → RunFacts run (w.below spot.group) → IsReached spot (answered (gives_object x)) → w.misfit spot.type (gives_object x) ≡ None
        → (v : Option Value) (cs : List Claim) → On (trail spot) cs → (o : Option T) → w.type_of x ≡ o → In_it (held (trail spot)) cs (object_found w run spot x o v cs)
    object_inner spot x r reached fits v cs a None e =
        nothing_inner w root initial all K (held (trail spot)) cs (none_inside spot (gives_object x) reached (ap (λ (o : Option T). fields_if w o x spot) e) cs a)
    object_inner spot x r reached fits v cs a (Some U) e =
        r.facts U x (trail spot) (object_for w (w.groups U (w.below spot.group)) v) cs
        (λ q b h. at_inside spot (gives_object x) reached fits (subst (λ (o : Option T). IsAmong q b (fields_if w o x spot)) (sym e) h))
        (λ q b k t p path.
        let i = within w root initial all lawful k spot (answered (gives_object x)) reached t p path in
        let same : i.meaning ≡ gives_object x = sym (same_answer (gives_object x) i.meaning i.is) in
        subst (λ (o : Option T). HasStep t (fields_if w o x spot)) e (subst (λ (n : Meaning X). HasStep t (inside w spot n)) same i.step))
        a

    mutual
      value_inner : (spot : Spot G) (m : Meaning X) → RunFacts run (w.below spot.group) → IsReached spot (answered m) → w.misfit spot.type m ≡ None
          → (v : Option Value) (cs : List Claim) → On (trail spot) cs → In_it (held (trail spot)) cs (value_found w run spot m v cs)
      value_inner spot (gives_leaf u) r reached fits v cs a = nothing_inner w root initial all K (held (trail spot)) cs (none_inside spot (gives_leaf u) reached refl cs a)
      value_inner spot (gives_object x) r reached fits v cs a = object_inner spot x r reached fits v cs a (w.type_of x) refl
      value_inner spot (gives_list ms) r reached fits v cs a =
          whole_inner w root initial all K (held (trail spot)) (items_of spot 0 ms) cs (items_found w run spot 0 ms (array_for ms v) cs)
          (λ c h t s q e. (inside_step spot (gives_list ms) reached cs a c h t s q e).0)
          (items_partial spot 0 ms r (λ q b h. at_inside spot (gives_list ms) reached fits h) (array_for ms v) cs a)
      value_inner spot gives_skip r reached fits v cs a = nothing_inner w root initial all K (held (trail spot)) cs (none_inside spot gives_skip reached refl cs a)
      value_inner spot (fails_with text) r reached fits v cs a = nothing_inner w root initial all K (held (trail spot)) cs (none_inside spot (fails_with text) reached refl cs a)

      items_partial : (list : Spot G) (i : ℕ) (ms : Meanings X) → RunFacts run (w.below list.group) → ((q : Spot G) (b : Outcome X) → IsAmong q b (items_of list i ms) → IsReached q b)
          → (vs : Option (List Value)) (cs : List Claim) → On (trail list) cs → Partial w root initial all K (held (trail list)) (items_of list i ms) cs (items_found w run list i ms vs cs)
      items_partial list i no_answer r reach vs cs a = nothing_partial w root initial all K (held (trail list)) cs
      items_partial list i (answer_then m ms) r reach vs cs a =
          let it = item_spot list i in
          let own = share (ListIndex i) cs in
          let reached : IsReached it (answered m) = reach it (answered m) (inl (refl, refl)) in
          let aligned = aligned_share (trail list) it cs refl a in
          let value = value_found w run it m (first vs) own in
          let inner = fitting w (w.misfit it.type m) value in
          child_partial w root initial all K (held (trail list)) (it, answered m) (items_of list (i + 1) ms) cs
          (unless_idle (first vs) own (settled w it (answered m) (first vs) own inner)) (items_found w run list (i + 1) ms (behind vs) cs)
          (idle_facts w root initial all K (held (trail list)) (first vs) own (settled w it (answered m) (first vs) own inner)
          (settled_facts w root initial all lawful K it (answered m) reached own aligned inner
          (fitting_inner it m reached own aligned value (λ fits. value_inner it m r reached fits (first vs) own aligned) (w.misfit it.type m) refl) (first vs)))
          (items_partial list (i + 1) ms r (λ q b h. reach q b (inr h)) (behind vs) cs a)

    pub inner_inner : (spot : Spot G) (outcome : Outcome X) → RunFacts run (w.below spot.group) → IsReached spot outcome → (v : Option Value) (cs : List Claim) → On (trail spot) cs
        → In_it (held (trail spot)) cs (inner_found w run spot outcome v cs)
    inner_inner spot (answered m) r reached v cs a =
        fitting_inner spot m reached cs a (value_found w run spot m v cs) (λ fits. value_inner spot m r reached fits v cs a) (w.misfit spot.type m) refl
    inner_inner spot (refused fault) r reached v cs a = nothing_inner w root initial all K (held (trail spot)) cs (none_refused spot fault reached cs a)

    outcome_facts : (spot : Spot G) (outcome : Outcome X) → RunFacts run (w.below spot.group) → IsReached spot outcome → (v : Option Value) (cs : List Claim) → On (trail spot) cs
        → Facts w root initial all K (held spot.around) cs (outcome_found w run spot outcome v cs)
    outcome_facts spot outcome r reached v cs a =
        let inner = inner_found w run spot outcome v cs in
        idle_facts w root initial all K (held spot.around) v cs (settled w spot outcome v cs inner)
        (settled_facts w root initial all lawful K spot outcome reached cs a inner (inner_inner spot outcome r reached v cs a) v)

    pub groups_partial : (U : T) (x : X) (outer : Trail) (gs : List G) → AllGroups w (λ g. RunFacts run (w.below g)) gs
        → ((q : Spot G) (b : Outcome X) → IsAmong q b (fields_of w U x outer gs) → IsReached q b)
        → (ms : Option (List Member)) (cs : List Claim) → On outer cs → Partial w root initial all K (held outer) (fields_of w U x outer gs) cs (groups_found w run U x outer gs ms cs)
    groups_partial U x outer [] rs reach ms cs a = nothing_partial w root initial all K (held outer) cs
    groups_partial U x outer (g ∷ gs) rs reach ms cs a =
        let p = field_spot w U outer g in
        let own = share (Field (w.name_of g)) cs in
        child_partial w root initial all K (held outer) (p, w.asks U x g) (fields_of w U x outer gs) cs
        (outcome_found w run p (w.asks U x g) (second (first ms)) own) (groups_found w run U x outer gs (behind ms) cs)
        (outcome_facts p (w.asks U x g) rs.0 (reach p (w.asks U x g) (inl (refl, refl))) (second (first ms)) own (aligned_share outer p cs refl a))
        (groups_partial U x outer gs rs.1 (λ q b h. reach q b (inr h)) (behind ms) cs a)

    -- ---- data without a bad path is good

    object_good : (spot : Spot G) (x : X) → RunFacts run (w.below spot.group) → IsReached spot (answered (gives_object x)) → w.misfit spot.type (gives_object x) ≡ None
        → (u : Value) (cs : List Claim) → On (trail spot) cs → (o : Option T) → w.type_of x ≡ o → object_given w spot o u ≡ true
        → (object_found w run spot x o (Some u) cs).bad ≡ None → Good spot (answered (gives_object x)) u
    object_good spot x r reached fits u cs a None e given bad = absurd (cc)
    object_good spot x r reached fits u cs a (Some U) e given bad =
        let gs = w.groups U (w.below spot.group) in
        let found = some_is (object_for w gs (Some u)) given in
        let is = object_is w gs u (object_members u) found.0 refl found.1 in
        let none = subst (λ ms. (run U x (trail spot) (w.below spot.group) ms cs).bad ≡ None) found.1 bad in
        subst (λ (y : Value). Good spot (answered (gives_object x)) y) (sym is.0)
        (object_kept U fits e
        (r.good U x (trail spot) found.0 cs
        (λ q b h. at_inside spot (gives_object x) reached fits (subst (λ (o : Option T). IsAmong q b (fields_if w o x spot)) (sym e) h))
        a is.1 none))

    mutual
      value_good : (spot : Spot G) (m : Meaning X) → RunFacts run (w.below spot.group) → IsReached spot (answered m) → w.misfit spot.type m ≡ None
          → (u : Value) (cs : List Claim) → On (trail spot) cs → meaning_given w spot m u ≡ true → (value_found w run spot m (Some u) cs).bad ≡ None
          → Good spot (answered m) u
      value_good spot (gives_leaf v) r reached fits u cs a given bad =
          subst (λ (y : Value). Good spot (answered (gives_leaf v)) y) ((identical_decides v u).0 given) (leaf_kept fits)
      value_good spot (gives_object x) r reached fits u cs a given bad = object_good spot x r reached fits u cs a (w.type_of x) refl given bad
      value_good spot (gives_list ms) r reached fits u cs a given bad =
          let found = some_is (array_for ms (Some u)) given in
          let is = array_is ms u (array_items u) found.0 refl found.1 in
          let none = subst (λ vs. (items_found w run spot 0 ms vs cs).bad ≡ None) found.1 bad in
          subst (λ (y : Value). Good spot (answered (gives_list ms)) y) (sym is.0)
          (list_kept fits (items_good spot 0 ms r (λ q b h. at_inside spot (gives_list ms) reached fits h) found.0 cs a is.1 none))
      value_good spot gives_skip r reached fits u cs a given bad = absurd (cc)
      value_good spot (fails_with text) r reached fits u cs a given bad = absurd (cc)

      items_good : (list : Spot G) (i : ℕ) (ms : Meanings X) → RunFacts run (w.below list.group) → ((q : Spot G) (b : Outcome X) → IsAmong q b (items_of list i ms) → IsReached q b)
          → (vs : List Value) (cs : List Claim) → On (trail list) cs → same_length (count ms) vs ≡ true → (items_found w run list i ms (Some vs) cs).bad ≡ None
          → ItemsAre w root initial all L list i ms vs
      items_good list i no_answer r reach [] cs a long bad = no_item
      items_good list i no_answer r reach (v ∷ vs) cs a long bad = absurd (cc)
      items_good list i (answer_then m ms) r reach [] cs a long bad = absurd (cc)
      items_good list i (answer_then m ms) r reach (v ∷ vs) cs a long bad =
          let it = item_spot list i in
          let own = share (ListIndex i) cs in
          let reached : IsReached it (answered m) = reach it (answered m) (inl (refl, refl)) in
          let aligned = aligned_share (trail list) it cs refl a in
          let value = value_found w run it m (Some v) own in
          let inner = fitting w (w.misfit it.type m) value in
          let split = first_none (settled w it (answered m) (Some v) own inner).bad (items_found w run list (i + 1) ms (Some vs) cs).bad bad in
          item_good
          (settled_good w root initial all lawful K it (answered m) reached own aligned inner (inner_inner it (answered m) r reached (Some v) own aligned) v
          (λ given none.
          let both = and_both (is_none (w.misfit it.type m)) (meaning_given w it m v) given in
          let fits = none_is (w.misfit it.type m) both.0 in
          value_good it m r reached fits v own aligned both.1 (subst (λ (o : Option Misfit). (fitting w o value).bad ≡ None) fits none))
          split.0)
          (items_good list (i + 1) ms r (λ q b h. reach q b (inr h)) vs cs a long split.1)

    pub outcome_good : (spot : Spot G) (outcome : Outcome X) → RunFacts run (w.below spot.group) → IsReached spot outcome → (u : Value) (cs : List Claim) → On (trail spot) cs
        → (outcome_found w run spot outcome (Some u) cs).bad ≡ None → Good spot outcome u
    outcome_good spot (answered m) r reached u cs a bad =
        let value = value_found w run spot m (Some u) cs in
        settled_good w root initial all lawful K spot (answered m) reached cs a (inner_found w run spot (answered m) (Some u) cs) (inner_inner spot (answered m) r reached (Some u) cs a) u
        (λ given none.
        let both = and_both (is_none (w.misfit spot.type m)) (meaning_given w spot m u) given in
        let fits = none_is (w.misfit spot.type m) both.0 in
        value_good spot m r reached fits u cs a both.1 (subst (λ (o : Option Misfit). (fitting w o value).bad ≡ None) fits none))
        bad
    outcome_good spot (refused fault) r reached u cs a bad =
        settled_good w root initial all lawful K spot (refused fault) reached cs a nothing (inner_inner spot (refused fault) r reached (Some u) cs a) u (λ given none. absurd (cc)) bad

    pub groups_good : (U : T) (x : X) (outer : Trail) (gs : List G) → AllGroups w (λ g. RunFacts run (w.below g)) gs
        → ((q : Spot G) (b : Outcome X) → IsAmong q b (fields_of w U x outer gs) → IsReached q b)
        → (members : List Member) (cs : List Claim) → On outer cs → same_keys w gs members ≡ true → (groups_found w run U x outer gs (Some members) cs).bad ≡ None
        → FieldsAre w root initial all L U x outer gs members
    groups_good U x outer [] rs reach [] cs a same bad = no_field
    groups_good U x outer [] rs reach (m ∷ ms) cs a same bad = absurd (cc)
    groups_good U x outer (g ∷ gs) rs reach [] cs a same bad = absurd (cc)
    groups_good U x outer (g ∷ gs) rs reach (m ∷ ms) cs a same bad =
        let p = field_spot w U outer g in
        let own = share (Field (w.name_of g)) cs in
        let k = and_both (bytes_eq (key_of w g) m.0) (same_keys w gs ms) same in
        let key : key_of w g ≡ m.0 = (bytes_eq-Decides (key_of w g) m.0).0 k.0 in
        let split = first_none (outcome_found w run p (w.asks U x g) (Some m.1) own).bad (groups_found w run U x outer gs (Some ms) cs).bad bad in
        subst (λ (n : List ℕ). FieldsAre w root initial all L U x outer (g ∷ gs) ((n, m.1) ∷ ms)) key
        (field_good (outcome_good p (w.asks U x g) rs.0 (reach p (w.asks U x g) (inl (refl, refl))) m.1 own (aligned_share outer p cs refl a) split.0)
        (groups_good U x outer gs rs.1 (λ q b h. reach q b (inr h)) ms cs a k.1 split.1))

    -- ---- good data has no bad path

    items_long : {list : Spot G} {i : ℕ} {ms : Meanings X} {vs : List Value} → ItemsAre w root initial all L list i ms vs → same_length (count ms) vs ≡ true
    items_long no_item = refl
    items_long (item_good good items) = items_long items

    pub fields_keyed : {U : T} {x : X} {outer : Trail} {gs : List G} {members : List Member} → FieldsAre w root initial all L U x outer gs members → same_keys w gs members ≡ true
    fields_keyed no_field = refl
    fields_keyed (field_good {g = g} {gs = gs} {members = ms} good fields) =
        and_made (bytes_eq (key_of w g) (key_of w g)) (same_keys w gs ms) (key_refl w (key_of w g)) (fields_keyed fields)

    mutual
      place_fine : {spot : Spot G} {outcome : Outcome X} {v : Value} → RunFacts run (w.below spot.group) → IsReached spot outcome → (cs : List Claim) → On (trail spot) cs
          → Covers w root initial all K (trail spot) cs → Good spot outcome v → (outcome_found w run spot outcome (Some v) cs).bad ≡ None
      place_fine {spot = spot} {outcome = outcome} r reached cs a covers (null_held h) =
          null_bad w root initial all lawful K spot outcome reached cs a (inner_found w run spot outcome (Some json.Null) cs)
          (inner_inner spot outcome r reached (Some json.Null) cs a) covers h
      place_fine {spot = spot} r reached cs a covers (leaf_kept {v = v} fits) =
          kept_bad w root initial all lawful K spot (answered (gives_leaf v)) reached cs a (inner_found w run spot (answered (gives_leaf v)) (Some v) cs)
          (inner_inner spot (answered (gives_leaf v)) r reached (Some v) cs a) v
          (and_made (is_none (w.misfit spot.type (gives_leaf v))) (is_identical v v) (none_made (w.misfit spot.type (gives_leaf v)) fits) ((identical_decides v v).1 refl))
          (subst (λ (o : Option Misfit). (fitting w o nothing).bad ≡ None) (sym fits) refl)
      place_fine {spot = spot} r reached cs a covers (list_kept {ms = ms} {vs = vs} fits items) =
          let found = array_found ms vs (items_long items) in
          kept_bad w root initial all lawful K spot (answered (gives_list ms)) reached cs a (inner_found w run spot (answered (gives_list ms)) (Some (json.Array vs)) cs)
          (inner_inner spot (answered (gives_list ms)) r reached (Some (json.Array vs)) cs a) (json.Array vs)
          (and_made (is_none (w.misfit spot.type (gives_list ms))) (is_some (array_for ms (Some (json.Array vs)))) (none_made (w.misfit spot.type (gives_list ms)) fits) (ap is_some found))
          (subst (λ (o : Option Misfit). (fitting w o (value_found w run spot (gives_list ms) (Some (json.Array vs)) cs)).bad ≡ None) (sym fits)
          (subst (λ us. (items_found w run spot 0 ms us cs).bad ≡ None) (sym found)
          (items_fine r (λ q b h. at_inside spot (gives_list ms) reached fits h) cs a (covers_on w root initial all K (trail spot) cs covers) items)))
      place_fine {spot = spot} r reached cs a covers (object_kept {x = x} {members = members} U fits typed fields) =
          let gs = w.groups U (w.below spot.group) in
          let found = object_found_for w gs members (fields_keyed fields) in
          kept_bad w root initial all lawful K spot (answered (gives_object x)) reached cs a (inner_found w run spot (answered (gives_object x)) (Some (json.Object members)) cs)
          (inner_inner spot (answered (gives_object x)) r reached (Some (json.Object members)) cs a) (json.Object members)
          (and_made (is_none (w.misfit spot.type (gives_object x))) (object_given w spot (w.type_of x) (json.Object members)) (none_made (w.misfit spot.type (gives_object x)) fits)
          (subst (λ (o : Option T). object_given w spot o (json.Object members) ≡ true) (sym typed) (ap is_some found)))
          (subst (λ (o : Option Misfit). (fitting w o (value_found w run spot (gives_object x) (Some (json.Object members)) cs)).bad ≡ None) (sym fits)
          (subst (λ (o : Option T). (object_found w run spot x o (Some (json.Object members)) cs).bad ≡ None) (sym typed)
          (subst (λ ms. (run U x (trail spot) (w.below spot.group) ms cs).bad ≡ None) (sym found)
          (r.fine U x (trail spot) members cs
          (λ q b h. at_inside spot (gives_object x) reached fits (subst (λ (o : Option T). IsAmong q b (fields_if w o x spot)) (sym typed) h))
          a (covers_on w root initial all K (trail spot) cs covers) fields))))

      items_fine : {list : Spot G} {i : ℕ} {ms : Meanings X} {vs : List Value} → RunFacts run (w.below list.group)
          → ((q : Spot G) (b : Outcome X) → IsAmong q b (items_of list i ms) → IsReached q b)
          → (cs : List Claim) → On (trail list) cs → CoversOn w root initial all K (trail list) cs → ItemsAre w root initial all L list i ms vs
          → (items_found w run list i ms (Some vs) cs).bad ≡ None
      items_fine r reach cs a covers no_item = refl
      items_fine {list = list} r reach cs a covers (item_good {i = i} {m = m} {ms = ms} {v = v} {vs = vs} good items) =
          let it = item_spot list i in
          let own = share (ListIndex i) cs in
          none_first (outcome_found w run it (answered m) (Some v) own).bad (items_found w run list (i + 1) ms (Some vs) cs).bad
          (place_fine r (reach it (answered m) (inl (refl, refl))) own (aligned_share (trail list) it cs refl a) (covers_share (trail list) it cs refl covers) good)
          (items_fine r (λ q b h. reach q b (inr h)) cs a covers items)

    pub groups_fine : {U : T} {x : X} {outer : Trail} {gs : List G} {members : List Member} → AllGroups w (λ g. RunFacts run (w.below g)) gs
        → ((q : Spot G) (b : Outcome X) → IsAmong q b (fields_of w U x outer gs) → IsReached q b)
        → (cs : List Claim) → On outer cs → CoversOn w root initial all K outer cs → FieldsAre w root initial all L U x outer gs members
        → (groups_found w run U x outer gs (Some members) cs).bad ≡ None
    groups_fine rs reach cs a covers no_field = refl
    groups_fine {U = U} {x = x} {outer = outer} rs reach cs a covers (field_good {g = g} {gs = gs} {v = v} {members = ms} good fields) =
        let p = field_spot w U outer g in
        let own = share (Field (w.name_of g)) cs in
        none_first (outcome_found w run p (w.asks U x g) (Some v) own).bad (groups_found w run U x outer gs (Some ms) cs).bad
        (place_fine rs.0 (reach p (w.asks U x g) (inl (refl, refl))) own (aligned_share outer p cs refl a) (covers_share outer p cs refl covers) good)
        (groups_fine rs.1 (λ q b h. reach q b (inr h)) cs a covers fields)
