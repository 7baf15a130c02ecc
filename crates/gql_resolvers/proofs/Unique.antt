-- Explained data is unique, whatever errors explain it.
use Rattle.std.proofs.Common.{◌≡◌, ℕ, ◌+◌, ◌≤◌, List, [], ◌∷◌, Option, Some, None, Bool, true, false, if◌then◌else◌, refl, sym, subst, ap, ◌∙◌, inl, inr, ◌⊎◌, arith}
use Rattle.std.specs.List.{AllByRecursion}
use Rattle.jb_tree.specs.declared.value.Value.{Value}
use Rattle.jb_tree.specs.declared.value.Value.TheVariants as json
use Rattle.gql_ast_base.specs.declared.type_ref.TypeRef.{TypeRef}
use Rattle.gql_response.specs.declared.graphql_error.GraphQLError.{GraphQLError}
use Rattle.gql_response.specs.declared.path.ResponseDataPathSegment.TheVariants.{Field, ListIndex}
use Rattle.jb_tree.specs.declared.value.Value.{out-Value}
use Rattle.jb_tree.specs.declared.value.Value.TheOpen as shape
use Rattle.jb_tree.specs.declared.value.Value.TheOpen.{Value-F}
use Rattle.gql_resolvers.proofs.Steps.{index_of, text_of}
use Rattle.gql_ast_base.specs.TypeParts.{is_non_null}
use Rattle.gql_resolvers.specs.Resolved.{Meaning, Meanings, gives_leaf, gives_object, gives_list, gives_skip, fails_with, no_answer, answer_then}
use Rattle.gql_resolvers.specs.Resolved.{Fault, Outcome, answered}
use Rattle.gql_resolvers.specs.World.{World, key_of, DistinctKeys, IsLawful}
use Rattle.gql_resolvers.specs.Trail.{Segment, Trail, held}
use Rattle.gql_resolvers.specs.Spot.{Spot, trail, item_spot, field_spot}
use Rattle.gql_resolvers.specs.Fault.{placed, fault_at}
use Rattle.gql_resolvers.specs.Reached.{IsAmong, items_of, fields_of, fields_if, inside, Reaches, at_root, at_inside}
use Rattle.gql_resolvers.specs.Execute.{Member}
use Rattle.gql_resolvers.specs.Explained.{IsFault, Holds, IsGood, ItemsAre, FieldsAre, null_held, leaf_kept, list_kept, object_kept}
use Rattle.gql_resolvers.specs.Explained.{no_item, item_good, no_field, field_good, IsExplainedBy}

module _ {X G : Type 0} where
  abbrev DistinctSteps : List (Spot G × Outcome X) → Type 0
  DistinctSteps [] = Unit {0}
  DistinctSteps (c ∷ cs) = AllByRecursion (λ (d : Spot G × Outcome X). ¬ (c.0.step ≡ d.0.step)) cs × DistinctSteps cs

  -- a place whose step differs from those of all is none of them
  not_among : (step : Segment) (cs : List (Spot G × Outcome X)) → AllByRecursion (λ (d : Spot G × Outcome X). ¬ (step ≡ d.0.step)) cs
      → (s : Spot G) (a : Outcome X) → IsAmong s a cs → step ≡ s.step → ⊥
  not_among step [] distinct s a h same = absurd h
  not_among step (c ∷ cs) distinct s a (inl h) same = distinct.0 (same ∙ ap (λ (p : Spot G). p.step) h.0)
  not_among step (c ∷ cs) distinct s a (inr h) same = not_among step cs distinct.1 s a h same

  among_unique : (cs : List (Spot G × Outcome X)) → DistinctSteps cs → (s t : Spot G) (a b : Outcome X) → IsAmong s a cs → IsAmong t b cs → s.step ≡ t.step → (s ≡ t) × (a ≡ b)
  among_unique [] distinct s t a b h k same = absurd h
  among_unique (c ∷ cs) distinct s t a b (inl h) (inl k) same = (h.0 ∙ sym k.0, h.1 ∙ sym k.1)
  among_unique (c ∷ cs) distinct s t a b (inl h) (inr k) same = absurd (not_among c.0.step cs distinct.0 t b k (sym (ap (λ (p : Spot G). p.step) h.0) ∙ same))
  among_unique (c ∷ cs) distinct s t a b (inr h) (inl k) same = absurd (not_among c.0.step cs distinct.0 s a h (sym (ap (λ (p : Spot G). p.step) k.0) ∙ sym same))
  among_unique (c ∷ cs) distinct s t a b (inr h) (inr k) same = among_unique cs distinct.1 s t a b h k same

  items_later : (list : Spot G) (i n : ℕ) (ms : Meanings X) → i + 1 ≤ n
      → AllByRecursion (λ (d : Spot G × Outcome X). ¬ (ListIndex i ≡ d.0.step)) (items_of list n ms)
  items_later list i n no_answer h = tt
  items_later list i n (answer_then m ms) h = (differ, items_later list i (n + 1) ms (omega (arith, h))) where
    differ : ¬ (ListIndex i ≡ ListIndex n)
    differ e = let same : i ≡ n = ap index_of e in omega (arith, h, same)

  items_distinct : (list : Spot G) (i : ℕ) (ms : Meanings X) → DistinctSteps (items_of list i ms)
  items_distinct list i no_answer = tt
  items_distinct list i (answer_then m ms) = (items_later list i (i + 1) ms (omega arith), items_distinct list (i + 1) ms)

  items_around : (list : Spot G) (i : ℕ) (ms : Meanings X) (s : Spot G) (a : Outcome X) → IsAmong s a (items_of list i ms) → s.around ≡ trail list
  items_around list i no_answer s a h = absurd h
  items_around list i (answer_then m ms) s a (inl h) = ap (λ (p : Spot G). p.around) h.0
  items_around list i (answer_then m ms) s a (inr h) = items_around list (i + 1) ms s a h

abbrev is_null : Value-F Value → Bool
is_null shape.Null = true
is_null _ = false

array_null : (vs : List Value) → json.Array vs ≡ json.Null → ⊥
unfolding out-Value denote.Hole.Carrier.out
array_null vs e = let wrong : false ≡ true = ap (λ (v : Value). is_null (out-Value v)) e in cc

object_null : (ms : List Member) → json.Object ms ≡ json.Null → ⊥
unfolding out-Value denote.Hole.Carrier.out
object_null ms e = let wrong : false ≡ true = ap (λ (v : Value). is_null (out-Value v)) e in cc

module _ {X T G S : Type 0} (w : World X T G S) (root : T) (initial : X) (all : S) (lawful : IsLawful w) where
  abbrev IsReached : Spot G → Outcome X → Type 0
  IsReached = Reaches w root initial all

  fields_later : (U : T) (x : X) (outer : Trail) (g : G) (gs : List G) → AllByRecursion (λ h. ¬ (key_of w g ≡ key_of w h)) gs
      → AllByRecursion (λ (d : Spot G × Outcome X). ¬ (Field (w.name_of g) ≡ d.0.step)) (fields_of w U x outer gs)
  fields_later U x outer g [] distinct = tt
  fields_later U x outer g (h ∷ gs) distinct = (differ, fields_later U x outer g gs distinct.1) where
    differ : ¬ (Field (w.name_of g) ≡ Field (w.name_of h))
    differ e = distinct.0 (ap text_of e)

  fields_distinct : (U : T) (x : X) (outer : Trail) (gs : List G) → DistinctKeys w gs → DistinctSteps (fields_of w U x outer gs)
  fields_distinct U x outer [] distinct = tt
  fields_distinct U x outer (g ∷ gs) distinct = (fields_later U x outer g gs distinct.0, fields_distinct U x outer gs distinct.1)

  pub fields_around : (U : T) (x : X) (outer : Trail) (gs : List G) (s : Spot G) (a : Outcome X) → IsAmong s a (fields_of w U x outer gs) → s.around ≡ outer
  fields_around U x outer [] s a h = absurd h
  fields_around U x outer (g ∷ gs) s a (inl h) = ap (λ (p : Spot G). p.around) h.0
  fields_around U x outer (g ∷ gs) s a (inr h) = fields_around U x outer gs s a h

  if_distinct : (type : Option T) (x : X) (spot : Spot G) → DistinctSteps (fields_if w type x spot)
  if_distinct None x spot = tt
  if_distinct (Some U) x spot = fields_distinct U x (trail spot) _ (lawful.distinct_keys U (w.below spot.group))

  if_around : (type : Option T) (x : X) (spot : Spot G) (s : Spot G) (a : Outcome X) → IsAmong s a (fields_if w type x spot) → s.around ≡ trail spot
  if_around None x spot s a h = absurd h
  if_around (Some U) x spot s a h = fields_around U x (trail spot) _ s a h

  inside_distinct : (outer : Spot G) (m : Meaning X) → DistinctSteps (inside w outer m)
  inside_distinct outer (gives_leaf v) = tt
  inside_distinct outer (gives_object x) = if_distinct (w.type_of x) x outer
  inside_distinct outer (gives_list ms) = items_distinct outer 0 ms
  inside_distinct outer gives_skip = tt
  inside_distinct outer (fails_with text) = tt

  pub inside_around : (outer : Spot G) (m : Meaning X) (s : Spot G) (a : Outcome X) → IsAmong s a (inside w outer m) → s.around ≡ trail outer
  inside_around outer (gives_leaf v) s a h = absurd h
  inside_around outer (gives_object x) s a h = if_around (w.type_of x) x outer s a h
  inside_around outer (gives_list ms) s a h = items_around outer 0 ms s a h
  inside_around outer gives_skip s a h = absurd h
  inside_around outer (fails_with text) s a h = absurd h

  trail_step : (s t : Spot G) → trail s ≡ trail t → s.step ≡ t.step
  trail_step s t e =
      let h : (s.step, s.type) ≡ (t.step, t.type) = cc in
      ap (λ (p : Segment × TypeRef). p.0) h

  trail_around : (s t : Spot G) → trail s ≡ trail t → s.around ≡ t.around
  trail_around s t e = cc

  pub answered_same : (m n : Meaning X) → answered m ≡ answered n → m ≡ n
  answered_same m n e = cc

  no_trail : (outer : Spot G) (around : Trail) → around ≡ [] → around ≡ trail outer → ⊥
  no_trail outer around a b = let e : trail outer ≡ [] = sym b ∙ a in cc

  -- one place at a trail
  pub same_place : {s t : Spot G} {a b : Outcome X} → IsReached s a → IsReached t b → trail s ≡ trail t → (s ≡ t) × (a ≡ b)
  same_place {s = s} {t = t} {a = a} {b = b} (at_root h) (at_root k) same =
      among_unique (fields_of w root initial [] (w.groups root all)) (fields_distinct root initial [] _ (lawful.distinct_keys root all)) s t a b h k (trail_step s t same)
  same_place {s = s} {t = t} {a = a} {b = b} (at_root h) (at_inside outer m r fits k) same =
      absurd (no_trail outer s.around (fields_around root initial [] _ s a h) (trail_around s t same ∙ inside_around outer m t b k))
  same_place {s = s} {t = t} {a = a} {b = b} (at_inside outer m r fits h) (at_root k) same =
      absurd (no_trail outer t.around (fields_around root initial [] _ t b k) (sym (trail_around s t same) ∙ inside_around outer m s a h))
  same_place {s = s} {t = t} {a = a} {b = b} (at_inside outer m r fits h) (at_inside outer2 m2 r2 fits2 k) same =
      let trails : trail outer ≡ trail outer2 = sym (inside_around outer m s a h) ∙ trail_around s t same ∙ inside_around outer2 m2 t b k in
      let one = same_place r r2 trails in
      let answers : m ≡ m2 = answered_same m m2 one.1 in
      let moved : IsAmong s a (inside w outer2 m2) = subst (λ (p : Spot G). IsAmong s a (inside w p m2)) one.0 (subst (λ (n : Meaning X). IsAmong s a (inside w outer n)) answers h) in
      among_unique (inside w outer2 m2) (inside_distinct outer2 m2) s t a b moved k (trail_step s t same)

  held_strict : (spot : Spot G) (b : Bool) (at : Option Trail) → is_non_null spot.type ≡ b → held (trail spot) ≡ at
      → (if b then held spot.around else Some (trail spot)) ≡ at
  held_strict spot b at e h = subst (λ (c : Bool). (if c then held spot.around else Some (trail spot)) ≡ at) e h

  -- where an error is held stands a place whose type may be null
  held_nullable : (t : Trail) (s : Segment × TypeRef) (ts : Trail) → held t ≡ Some (s ∷ ts) → is_non_null s.1 ≡ true → ⊥
  held_nullable [] s ts h strict = cc
  held_nullable (u ∷ us) s ts h strict = by_case (is_non_null u.1) refl h (λ k. held_nullable us s ts k strict) where
    by_case : (b : Bool) → is_non_null u.1 ≡ b → (if b then held us else Some (u ∷ us)) ≡ Some (s ∷ ts) → (held us ≡ Some (s ∷ ts) → ⊥) → ⊥
    by_case true e k onward = onward k
    by_case false e k onward =
        let same : u ≡ s = cc in
        let wrong : false ≡ true = sym e ∙ ap (λ (p : Segment × TypeRef). is_non_null p.1) same ∙ strict in
        cc

  module _ (L : GraphQLError → Type 0) where
    abbrev Good : Spot G → Outcome X → Value → Type 0
    Good = IsGood w root initial all L

    -- only null can be good there
    abbrev NoValue : Spot G → Outcome X → Type 0
    NoValue spot outcome = (v : Value) → Good spot outcome v → v ≡ json.Null

    -- what a held fault rules out
    abbrev Stops : Option Trail → Type 0
    Stops None = (members : List Member) → FieldsAre w root initial all L root initial [] (w.groups root all) members → ⊥
    Stops (Some t) = (spot : Spot G) (outcome : Outcome X) → IsReached spot outcome → trail spot ≡ t → NoValue spot outcome

    -- a place that may not be null and has no value has nothing good
    null_strict : {spot : Spot G} {outcome : Outcome X} {v : Value} → is_non_null spot.type ≡ true → Good spot outcome v → v ≡ json.Null → ⊥
    null_strict {spot = spot} strict (null_held h) null = held_nullable (trail h.2.spot) (spot.step, spot.type) spot.around h.2.holds strict
    null_strict {spot = spot} strict (leaf_kept fits) null =
        lawful.null_misfits spot.type strict (subst (λ (u : Value). w.misfit spot.type (gives_leaf u) ≡ None) null fits)
    null_strict strict (list_kept {vs = vs} fits items) null = array_null vs null
    null_strict strict (object_kept {members = members} U fits typed fields) null = object_null members null

    item_within : {list : Spot G} {i : ℕ} {ms : Meanings X} {vs : List Value} (s : Spot G) (a : Outcome X) → ItemsAre w root initial all L list i ms vs
        → IsAmong s a (items_of list i ms) → (v : Value) × Good s a v
    item_within s a no_item h = absurd h
    item_within s a (item_good {list = list} {i = i} {v = v} good items) (inl h) =
        (v, subst (λ (p : Spot G). Good p a v) (sym h.0) (subst (λ (b : Outcome X). Good (item_spot list i) b v) (sym h.1) good))
    item_within s a (item_good good items) (inr h) = item_within s a items h

    field_within : {U : T} {x : X} {outer : Trail} {gs : List G} {members : List Member} (s : Spot G) (a : Outcome X)
        → FieldsAre w root initial all L U x outer gs members → IsAmong s a (fields_of w U x outer gs) → (v : Value) × Good s a v
    field_within s a no_field h = absurd h
    field_within s a (field_good {U = U} {outer = outer} {g = g} {v = v} good fields) (inl h) =
        (v, subst (λ (p : Spot G). Good p a v) (sym h.0) (subst (λ (b : Outcome X). Good (field_spot w U outer g) b v) (sym h.1) good))
    field_within s a (field_good good fields) (inr h) = field_within s a fields h

    -- a value that is good is null, or has something good at each place inside
    good_inside : {outer : Spot G} {m : Meaning X} {v : Value} (s : Spot G) (a : Outcome X) → Good outer (answered m) v → IsAmong s a (inside w outer m)
        → (v ≡ json.Null) ⊎ ((u : Value) × Good s a u)
    good_inside s a (null_held held_here) h = inl refl
    good_inside s a (leaf_kept fits) h = absurd h
    good_inside s a (list_kept fits items) h = inr (item_within s a items h)
    good_inside s a (object_kept {spot = spot} {x = x} U fits typed fields) h =
        inr (field_within s a fields (subst (λ (o : Option T). IsAmong s a (fields_if w o x spot)) typed h))

    nothing_inside : (outer : Spot G) (m : Meaning X) (s : Spot G) (a : Outcome X) → IsAmong s a (inside w outer m) → ((v : Value) → Good s a v → ⊥) → NoValue outer (answered m)
    nothing_inside outer m s a h none v good = by_case (good_inside s a good h) where
      by_case : (v ≡ json.Null) ⊎ ((u : Value) × Good s a u) → v ≡ json.Null
      by_case (inl e) = e
      by_case (inr e) = absurd (none e.0 e.1)

    -- from a place without a value outward, to the one that holds it
    step_out : (s : Spot G) (a : Outcome X) → IsReached s a → NoValue s a → (at : Option Trail) → held (trail s) ≡ at
        → (((v : Value) → Good s a v → ⊥) → held s.around ≡ at → Stops at) → Stops at
    step_out s a reached none at holds onward = by_case (is_non_null s.type) refl (held_strict s (is_non_null s.type) at refl holds) where
      by_case : (b : Bool) → is_non_null s.type ≡ b → (if b then held s.around else Some (trail s)) ≡ at → Stops at
      by_case false e h = subst Stops h (λ spot outcome r same. let one = same_place r reached same in
          subst (λ (p : Spot G). NoValue p outcome) (sym one.0) (subst (λ (b : Outcome X). NoValue s b) (sym one.1) none))
      by_case true e h = onward (λ v good. null_strict e good (none v good)) h

    root_stops : (s : Spot G) (a : Outcome X) → IsAmong s a (fields_of w root initial [] (w.groups root all)) → ((v : Value) → Good s a v → ⊥)
        → (at : Option Trail) → held s.around ≡ at → Stops at
    root_stops s a h none at holds =
        let e : None ≡ at = subst (λ (t : Trail). held t ≡ at) (fields_around root initial [] _ s a h) holds in
        subst Stops e (λ members fields. let g = field_within s a fields h in none g.0 g.1)

    climb : {s : Spot G} {a : Outcome X} → IsReached s a → NoValue s a → (at : Option Trail) → held (trail s) ≡ at → Stops at
    climb {s = s} {a = a} (at_root h) none at holds = step_out s a (at_root h) none at holds (λ nothing e. root_stops s a h nothing at e)
    climb {s = s} {a = a} (at_inside outer m r fits h) none at holds =
        step_out s a (at_inside outer m r fits h) none at holds
        (λ nothing e. climb r (nothing_inside outer m s a h nothing) at (ap held (sym (inside_around outer m s a h)) ∙ e))

    -- a place with a fault has no value
    faulty : {s : Spot G} {a : Outcome X} (fault : Fault) → fault_at w s a ≡ Some fault → (v : Value) → Good s a v → v ≡ json.Null
    faulty fault told v (null_held held_here) = refl
    faulty fault told v (leaf_kept {spot = s} fits) = let e : None ≡ Some fault = sym (ap (placed (w.span_of s.group)) fits) ∙ told in cc
    faulty fault told v (list_kept {spot = s} fits items) = let e : None ≡ Some fault = sym (ap (placed (w.span_of s.group)) fits) ∙ told in cc
    faulty fault told v (object_kept {spot = s} U fits typed fields) = let e : None ≡ Some fault = sym (ap (placed (w.span_of s.group)) fits) ∙ told in cc

  module _ (L : GraphQLError → Type 0) where
    -- where a fault is held, no other value is good than null
    fault_stops : (error : GraphQLError) (at : Option Trail) → IsFault w root initial all error at → Stops L at
    fault_stops error at f = climb L f.reached (faulty L f.fault f.told) at f.holds

  module _ (L M : GraphQLError → Type 0) where
    held_null : (s : Spot G) (a : Outcome X) (v : Value) → IsReached s a → Holds w root initial all L (Some (trail s)) → Good M s a v → v ≡ json.Null
    held_null s a v reached h good = fault_stops M h.0 (Some (trail s)) h.2 s a reached refl v good

  module _ (L M : GraphQLError → Type 0) where
    mutual
      same_value : {s : Spot G} {a : Outcome X} {v u : Value} → IsReached s a → Good L s a v → Good M s a u → v ≡ u
      same_value {s = s} {a = a} {u = u} reached (null_held h) good = sym (held_null L M s a u reached h good)
      same_value {s = s} {a = a} {v = v} reached (leaf_kept fits) (null_held h) = held_null M L s a v reached h (leaf_kept fits)
      same_value reached (leaf_kept fits) (leaf_kept fits2) = refl
      same_value {s = s} {a = a} {v = v} reached (list_kept fits items) (null_held h) = held_null M L s a v reached h (list_kept fits items)
      same_value {s = s} reached (list_kept {ms = ms} fits items) (list_kept fits2 items2) =
          ap json.Array (same_items (λ t b h. at_inside s (gives_list ms) reached fits h) items items2)
      same_value {s = s} {a = a} {v = v} reached (object_kept U fits typed fields) (null_held h) = held_null M L s a v reached h (object_kept U fits typed fields)
      same_value {s = s} reached (object_kept {x = x} {members = members} U fits typed fields) (object_kept {members = more} W fits2 typed2 fields2) =
          let both : Some W ≡ Some U = sym typed2 ∙ typed in
          let types : W ≡ U = cc in
          ap json.Object (same_fields (λ t b h. at_inside s (gives_object x) reached fits (subst (λ (o : Option T). IsAmong t b (fields_if w o x s)) (sym typed) h))
          fields (subst (λ (Y : T). FieldsAre w root initial all M Y x (trail s) (w.groups Y (w.below s.group)) more) types fields2))

      same_items : {list : Spot G} {i : ℕ} {ms : Meanings X} {vs us : List Value} → ((t : Spot G) (b : Outcome X) → IsAmong t b (items_of list i ms) → IsReached t b)
          → ItemsAre w root initial all L list i ms vs → ItemsAre w root initial all M list i ms us → vs ≡ us
      same_items reached no_item no_item = refl
      same_items reached (item_good {list = list} {i = i} {m = m} {v = v} {vs = vs} good items) (item_good {v = u} {vs = us} good2 items2) =
          let one : v ≡ u = same_value (reached (item_spot list i) (answered m) (inl (refl, refl))) good good2 in
          let rest : vs ≡ us = same_items (λ t b h. reached t b (inr h)) items items2 in
          cc

      same_fields : {U : T} {x : X} {outer : Trail} {gs : List G} {members more : List Member} → ((t : Spot G) (b : Outcome X) → IsAmong t b (fields_of w U x outer gs) → IsReached t b)
          → FieldsAre w root initial all L U x outer gs members → FieldsAre w root initial all M U x outer gs more → members ≡ more
      same_fields reached no_field no_field = refl
      same_fields reached (field_good {U = U} {x = x} {outer = outer} {g = g} {v = v} {members = ms} good fields) (field_good {v = u} {members = us} good2 fields2) =
          let one : v ≡ u = same_value (reached (field_spot w U outer g) (w.asks U x g) (inl (refl, refl))) good good2 in
          let rest : ms ≡ us = same_fields (λ t b h. reached t b (inr h)) fields fields2 in
          ap (λ (z : Value). (key_of w g, z) ∷ ms) one ∙ ap (λ (l : List Member). (key_of w g, u) ∷ l) rest

    -- explained data is unique
    pub unique : (data1 data2 : Option (List Member)) → IsExplainedBy w root initial all L data1 → IsExplainedBy w root initial all M data2 → data1 ≡ data2
    unique None None p q = refl
    unique None (Some more) p q = absurd (fault_stops M p.0 None p.2 more q)
    unique (Some members) None p q = absurd (fault_stops L q.0 None q.2 members p)
    unique (Some members) (Some more) p q = ap Some (same_fields (λ t b h. at_root h) p q)
