-- Explained data has a null along the path of each true fault.
use Rattle.std.proofs.Common.{◌≡◌, ℕ, suc, ◌+◌, List, [], ◌∷◌, ◌++◌, Option, Some, None, refl, sym, subst, ap, ◌∙◌, inl, inr, ◌⊎◌, arith, append_assoc, append-nil}
use Rattle.jb_tree.specs.declared.value.Value.{Value}
use Rattle.jb_tree.specs.declared.value.Value.TheVariants as json
use Rattle.gql_ast_base.specs.Names.{Named}
use Rattle.gql_response.specs.declared.graphql_error.GraphQLError.{GraphQLError}
use Rattle.gql_response.specs.declared.path.ResponseDataPathSegment.TheVariants.{Field, ListIndex}
use Rattle.gql_resolvers.specs.Resolved.{Meaning, Meanings, gives_leaf, gives_object, gives_list, gives_skip, fails_with, no_answer, answer_then}
use Rattle.gql_resolvers.specs.Resolved.{Fault, Outcome, answered}
use Rattle.gql_resolvers.specs.World.{World, key_of}
use Rattle.gql_resolvers.specs.Trail.{Segment, Trail, path_of}
use Rattle.gql_resolvers.specs.Spot.{Spot, trail, item_spot, field_spot}
use Rattle.gql_resolvers.specs.Fault.{placed, fault_at}
use Rattle.gql_resolvers.specs.Reached.{IsAmong, items_of, fields_of, fields_if, inside, Reaches, at_root, at_inside}
use Rattle.gql_resolvers.specs.Execute.{Member}
use Rattle.gql_resolvers.specs.Explained.{IsGood, ItemsAre, FieldsAre, null_held, leaf_kept, list_kept, object_kept}
use Rattle.gql_resolvers.specs.Explained.{no_item, item_good, no_field, field_good}
use Rattle.gql_resolvers.specs.Along.{IsPair, IsNth, Along, whole, at_key, at_index, MeetsNull}

module _ {X T G S : Type 0} (w : World X T G S) (root : T) (initial : X) (all : S) (L : GraphQLError → Type 0) where
  abbrev Good : Spot G → Outcome X → Value → Type 0
  Good = IsGood w root initial all L

  -- a place inside, with its value and where that stands
  abbrev ItemFound : Spot G → Outcome X → Spot G → ℕ → List Value → Type 0
  ItemFound s a list i vs = (v : Value) × (k : ℕ) × (s ≡ record s { around = trail list; step = ListIndex (i + k) }) × IsNth k v vs × Good s a v

  item_later : (s : Spot G) (a : Outcome X) (list : Spot G) (i : ℕ) (u : Value) (us : List Value) → ItemFound s a list (i + 1) us → ItemFound s a list i (u ∷ us)
  item_later s a list i u us (v, k, e, nth, found) =
      let n : (i + 1) + k ≡ i + suc k = omega arith in
      (v, suc k, subst (λ (j : ℕ). s ≡ record s { around = trail list; step = ListIndex j }) n e, nth, found)

  item_found : {list : Spot G} {i : ℕ} {ms : Meanings X} {vs : List Value} (s : Spot G) (a : Outcome X) → ItemsAre w root initial all L list i ms vs
      → IsAmong s a (items_of list i ms) → ItemFound s a list i vs
  item_found s a no_item h = absurd h
  item_found s a (item_good {list = list} {i = i} {v = v} good items) (inl h) =
      let n : i ≡ i + 0 = omega arith in (
        v,
        0,
        subst (λ (j : ℕ). s ≡ record s { around = trail list; step = ListIndex j }) n
            (subst (λ (p : Spot G). p ≡ record p { around = trail list; step = ListIndex i }) (sym h.0) refl),
        refl,
        subst (λ (p : Spot G). Good p a v) (sym h.0) (subst (λ (b : Outcome X). Good (item_spot list i) b v) (sym h.1) good),
      )
  item_found s a (item_good {list = list} {i = i} {v = u} {vs = us} good items) (inr h) = item_later s a list i u us (item_found s a items h)

  abbrev FieldFound : Spot G → Outcome X → Trail → List Member → Type 0
  FieldFound s a outer members = (v : Value) × (k : Named) × (s ≡ record s { around = outer; step = Field k }) × IsPair k.text v members × Good s a v

  field_later : (s : Spot G) (a : Outcome X) (outer : Trail) (p : List ℕ × Value) (ps : List Member) → FieldFound s a outer ps → FieldFound s a outer (p ∷ ps)
  field_later s a outer p ps (v, k, e, pair, found) = (v, k, e, inr pair, found)

  field_found : {U : T} {x : X} {outer : Trail} {gs : List G} {members : List Member} (s : Spot G) (a : Outcome X) → FieldsAre w root initial all L U x outer gs members
      → IsAmong s a (fields_of w U x outer gs) → FieldFound s a outer members
  field_found s a no_field h = absurd h
  field_found s a (field_good {U = U} {outer = outer} {g = g} {v = v} good fields) (inl h) = (
    v,
    w.name_of g,
    subst (λ (p : Spot G). p ≡ record p { around = outer; step = Field (w.name_of g) }) (sym h.0) refl,
    inl (refl, refl),
    subst (λ (p : Spot G). Good p a v) (sym h.0) (subst (λ (b : Outcome X). Good (field_spot w U outer g) b v) (sym h.1) good),
  )
  field_found s a (field_good {outer = outer} {g = g} {v = u} {members = ms} good fields) (inr h) = field_later s a outer (key_of w g, u) ms (field_found s a fields h)

  items_around : (list : Spot G) (i : ℕ) (ms : Meanings X) (s : Spot G) (a : Outcome X) → IsAmong s a (items_of list i ms) → s.around ≡ trail list
  items_around list i no_answer s a h = absurd h
  items_around list i (answer_then m ms) s a (inl h) = ap (λ (p : Spot G). p.around) h.0
  items_around list i (answer_then m ms) s a (inr h) = items_around list (i + 1) ms s a h

  fields_around : (U : T) (x : X) (outer : Trail) (gs : List G) (s : Spot G) (a : Outcome X) → IsAmong s a (fields_of w U x outer gs) → s.around ≡ outer
  fields_around U x outer [] s a h = absurd h
  fields_around U x outer (g ∷ gs) s a (inl h) = ap (λ (p : Spot G). p.around) h.0
  fields_around U x outer (g ∷ gs) s a (inr h) = fields_around U x outer gs s a h

  if_around : (type : Option T) (x : X) (spot : Spot G) (s : Spot G) (a : Outcome X) → IsAmong s a (fields_if w type x spot) → s.around ≡ trail spot
  if_around None x spot s a h = absurd h
  if_around (Some U) x spot s a h = fields_around U x (trail spot) _ s a h

  inside_around : (outer : Spot G) (m : Meaning X) (s : Spot G) (a : Outcome X) → IsAmong s a (inside w outer m) → s.around ≡ trail outer
  inside_around outer (gives_leaf v) s a h = absurd h
  inside_around outer (gives_object x) s a h = if_around (w.type_of x) x outer s a h
  inside_around outer (gives_list ms) s a h = items_around outer 0 ms s a h
  inside_around outer gives_skip s a h = absurd h
  inside_around outer (fails_with text) s a h = absurd h

  module _ (members : List Member) (fields : FieldsAre w root initial all L root initial [] (w.groups root all) members) where
    -- what the data has along a reached place's trail
    abbrev Met : Spot G → Outcome X → Type 0
    Met s a = MeetsNull members (path_of (trail s)) ⊎ ((v : Value) × Along members (path_of (trail s)) v × Good s a v)

    on_trail : (s : Spot G) (outer : Trail) (step : Segment) (v : Value) → s ≡ record s { around = outer; step = step } → Along members (path_of outer ++ step ∷ []) v → Along members (path_of (trail s)) v
    on_trail s outer step v e along =
        let same : path_of outer ++ step ∷ [] ≡ path_of (trail s) = sym (ap (λ (p : Spot G). path_of p.around ++ p.step ∷ []) e) in
        subst (λ (p : List Segment). Along members p v) same along

    null_here : (path : List Segment) → Along members path json.Null → MeetsNull members path
    null_here path along = record { front = path; rest = []; split = sym (append-nil path); null = along }

    within : {outer : Spot G} {m : Meaning X} {v : Value} (s : Spot G) (a : Outcome X) → Along members (path_of (trail outer)) v → Good outer (answered m) v → IsAmong s a (inside w outer m)
        → s.around ≡ trail outer → Met s a
    within {outer = outer} s a along (null_held h) among around = inl (record {
      front = path_of (trail outer);
      rest = s.step ∷ [];
      split = ap (λ (t : Trail). path_of t ++ s.step ∷ []) around;
      null = along;
    })
    within s a along (leaf_kept fits) among around = absurd among
    within s a along (list_kept {spot = spot} {vs = vs} fits items) among around =
        let f = item_found s a items among in
        inr (f.0, on_trail s (trail spot) (ListIndex (0 + f.1)) f.0 f.2 (at_index (0 + f.1) vs along (subst (λ (n : ℕ). IsNth n f.0 vs) (let e : f.1 ≡ 0 + f.1 = omega arith in e) f.3)), f.4)
    within s a along (object_kept {spot = spot} {x = x} {members = ms} U fits typed fields2) among around =
        let f = field_found s a fields2 (subst (λ (o : Option T). IsAmong s a (fields_if w o x spot)) typed among) in
        inr (f.0, on_trail s (trail spot) (Field f.1) f.0 f.2 (at_key f.1 ms along f.3), f.4)

    reach : {s : Spot G} {a : Outcome X} → Reaches w root initial all s a → Met s a
    reach {s = s} {a = a} (at_root h) =
        let f = field_found s a fields h in
        inr (f.0, on_trail s [] (Field f.1) f.0 f.2 (at_key f.1 members whole f.3), f.4)
    reach {s = s} {a = a} (at_inside outer m r fits h) = by_case (reach r) where
      by_case : Met outer (answered m) → Met s a
      by_case (inl met) = inl (record {
        front = met.front;
        rest = met.rest ++ s.step ∷ [];
        split = ap (λ (t : Trail). path_of t ++ s.step ∷ []) (inside_around outer m s a h) ∙ ap (λ (p : List Segment). p ++ s.step ∷ []) met.split
            ∙ append_assoc met.front met.rest (s.step ∷ []);
        null = met.null;
      })
      by_case (inr found) = within s a found.1 found.2 h (inside_around outer m s a h)

    faulty : {s : Spot G} {a : Outcome X} {v : Value} (fault : Fault) → fault_at w s a ≡ Some fault → Good s a v → v ≡ json.Null
    faulty fault told (null_held h) = refl
    faulty fault told (leaf_kept {spot = t} fits) = let e : None ≡ Some fault = sym (ap (placed (w.span_of t.group)) fits) ∙ told in cc
    faulty fault told (list_kept {spot = t} fits items) = let e : None ≡ Some fault = sym (ap (placed (w.span_of t.group)) fits) ∙ told in cc
    faulty fault told (object_kept {spot = t} U fits typed more) = let e : None ≡ Some fault = sym (ap (placed (w.span_of t.group)) fits) ∙ told in cc

    -- a null along the path of each fault
    pub meets_null : {s : Spot G} {a : Outcome X} (fault : Fault) → Reaches w root initial all s a → fault_at w s a ≡ Some fault → MeetsNull members (path_of (trail s))
    meets_null {s = s} {a = a} fault reached told = by_case (reach reached) where
      by_case : Met s a → MeetsNull members (path_of (trail s))
      by_case (inl met) = met
      by_case (inr found) = null_here (path_of (trail s)) (subst (λ (v : Value). Along members (path_of (trail s)) v) (faulty fault told found.2) found.1)
