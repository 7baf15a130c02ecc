-- What holds of a place, from what is found inside it.
use Rattle.std.proofs.Common.{◌≡◌, ℕ, List, [], ◌∷◌, ◌++◌, Option, Some, None, Bool, true, false, if◌then◌else◌, refl, sym, subst, ap, ◌∙◌, inl, inr, ◌⊎◌, append-nil}
use Rattle.std.specs.Prelude.{◌&&◌, not, option_to_list}
use Rattle.jb_tree.specs.Value.{is_null}
use Rattle.jb_tree.specs.declared.value.Value.{Value}
use Rattle.jb_tree.specs.declared.value.Value.TheVariants as json
use Rattle.gql_ast_base.specs.TypeParts.{is_non_null}
use Rattle.gql_response.specs.ErrorAt.{place_in}
use Rattle.gql_response.specs.Held.{unplaced_error}
use Rattle.gql_response.specs.declared.graphql_error.GraphQLError.{GraphQLError}
use Rattle.gql_resolvers.proofs.OnePlace.{one_place}
use Rattle.gql_resolvers.specs.Resolved.{Fault, Outcome}
use Rattle.gql_resolvers.specs.World.{World, IsLawful}
use Rattle.gql_resolvers.specs.Trail.{Segment, Trail, path_of, shown, held}
use Rattle.gql_resolvers.specs.Spot.{Spot, trail}
use Rattle.gql_resolvers.specs.Fault.{fault_at, fault_error}
use Rattle.gql_resolvers.specs.Reached.{Reaches}
use Rattle.gql_resolvers.specs.Explained.{IsFault, Holds, IsGood, null_held}
use Rattle.gql_checker_laws.specs.Bad.{Fits, FirstBad, unfit}
use Rattle.gql_checker_laws.specs.Claims.{Claim, Found}
use Rattle.gql_checker_laws.specs.Walk.{tells_from, tells, any_tells, told_here, is_given, comes, settled}
use Rattle.gql_checker_laws.proofs.Parts.{or_left, or_right, or_cases, and_both, and_made, not_true, not_made, null_same, null_null}
use Rattle.gql_checker_laws.proofs.Paths.{way_to, way_append, within, never_past, held_nullable, held_out, IsOut}
use Rattle.gql_checker_laws.proofs.Portions.{In, in_front, in_back, in_either, Some_of}
use Rattle.gql_checker_laws.proofs.Shown.{says_same, same_says}
use Rattle.gql_checker_laws.proofs.Facts.{TellsAt, IsTrue, true_at, at_true, SomeHeld, Aligned, Covers, Facts, Inner}

-- nothing is left where nothing is shown
nothing_left : (r : List Segment) → shown r ≡ [] → r ≡ []
nothing_left [] e = refl
nothing_left (s ∷ r) e = absurd (cc)

module _ {X T G S : Type 0} (w : World X T G S) (root : T) (initial : X) (all : S) (lawful : IsLawful w) (K : GraphQLError → Type 0) where
  abbrev pub IsReached : Spot G → Outcome X → Type 0
  IsReached = Reaches w root initial all

  abbrev pub Shown : GraphQLError → Type 0
  Shown fault = (e : GraphQLError) × K e × (unplaced_error fault ≡ unplaced_error e)

  abbrev pub At : GraphQLError → Option Trail → Type 0
  At = TellsAt w root initial all K

  abbrev pub True : GraphQLError → Type 0
  True = IsTrue w root initial all K

  abbrev pub Held : Option Trail → Type 0
  Held = SomeHeld w root initial all K

  -- the error shows the place's own fault
  abbrev Told : Spot G → Outcome X → GraphQLError → Type 0
  Told spot outcome e = (fault : Fault) × (fault_at w spot outcome ≡ Some fault) × (unplaced_error (fault_error w spot fault) ≡ unplaced_error e)

  -- a held error holds a null for the data
  pub holds_of : (at : Option Trail) → Held at → Holds w root initial all Shown at
  holds_of at h = (h.2.0, (h.0, h.1, h.2.2), h.2.1)

  -- the path of the place of a fault is that of the error that shows it
  pub fault_way : (e : GraphQLError) (at : Option Trail) (t : At e at) → way_to t.1.spot ≡ shown e.path
  fault_way e at t = sym (ap (λ (x : GraphQLError). shown x.path) t.1.is) ∙ ap (λ (x : GraphQLError). x.path) t.2

  -- ---- claims that end at a place

  module _ (spot : Spot G) (outcome : Outcome X) (reached : IsReached spot outcome) (cs : List Claim) (aligned : Aligned w root initial all K (trail spot) cs) where
    abbrev fault_here : Option Fault
    fault_here = fault_at w spot outcome

    told_from : (f : Fault) (c : Claim) (r : List Segment) → fault_here ≡ Some f → c.rest ≡ r → shown c.error.path ≡ way_to spot ++ shown c.rest
        → tells_from w r c.error f ≡ true → Told spot outcome c.error
    told_from f c [] is rest path h = (
      f,
      is,
      says_same c.error f.message (option_to_list (place_in f.span w.sources)) f.marked (path_of (trail spot)) h
          (path ∙ ap (λ l. way_to spot ++ shown l) rest ∙ append-nil (way_to spot)),
    )
    told_from f c (s ∷ r) is rest path h = absurd (cc)

    told_by : (f : Option Fault) (c : Claim) → In c cs → fault_here ≡ f → tells w f c ≡ true → Told spot outcome c.error
    told_by None c there is h = absurd (cc)
    told_by (Some f) c there is h = told_from f c c.rest is refl (aligned c there).0 h

    from_told : (f : Fault) (c : Claim) (r : List Segment) → r ≡ [] → unplaced_error (fault_error w spot f) ≡ unplaced_error c.error → tells_from w r c.error f ≡ true
    from_told f c [] e same = same_says c.error f.message (option_to_list (place_in f.span w.sources)) f.marked (path_of (trail spot)) same
    from_told f c (s ∷ r) e same = absurd (cc)

    tells_by : (c : Claim) → shown c.rest ≡ [] → Told spot outcome c.error → tells w fault_here c ≡ true
    tells_by c none t = subst (λ f. tells w f c ≡ true) (sym t.1) (from_told t.0 c c.rest (nothing_left c.rest none) t.2)

    fault_of : (e : GraphQLError) → Told spot outcome e → At e (held (trail spot))
    fault_of e t = (fault_error w spot t.0, record { spot = spot; outcome = outcome; reached = reached; fault = t.0; told = t.1; is = refl; holds = refl }, t.2)

    -- a true fault whose path ends at a reached place is that place's
    own_fault : (e : GraphQLError) (at : Option Trail) → At e at → shown e.path ≡ way_to spot → Told spot outcome e × (held (trail spot) ≡ at)
    own_fault e at t path =
        let f = t.1 in
        let one = one_place w root initial all lawful f.reached reached (fault_way e at t ∙ path) in
        let told : fault_at w spot outcome ≡ Some f.fault =
        subst (λ (s : Spot G). fault_at w s outcome ≡ Some f.fault) one.0 (subst (λ (a : Outcome X). fault_at w f.spot a ≡ Some f.fault) one.1 f.told) in
        let is : t.0 ≡ fault_error w spot f.fault = f.is ∙ ap (λ (s : Spot G). fault_error w s f.fault) one.0 in
        let same : unplaced_error (fault_error w spot f.fault) ≡ unplaced_error e = ap unplaced_error (sym is) ∙ t.2 in
        let holds : held (trail spot) ≡ at = subst (λ (s : Spot G). held (trail s) ≡ at) one.0 f.holds in
        ((f.fault, told, same), holds)

    ends_at : (c : Claim) → In c cs → shown c.rest ≡ [] → shown c.error.path ≡ way_to spot
    ends_at c h e = (aligned c h).0 ∙ ap (λ l. way_to spot ++ l) e ∙ append-nil (way_to spot)

    goes_at : (c : Claim) → In c cs → (s : Segment) (q : List Segment) → shown c.rest ≡ s ∷ q → shown c.error.path ≡ way_to spot ++ s ∷ q
    goes_at c h s q e = (aligned c h).0 ∙ ap (λ l. way_to spot ++ l) e

    ends_told : (c : Claim) → In c cs → shown c.rest ≡ [] → (at : Option Trail) → At c.error at → Told spot outcome c.error × (held (trail spot) ≡ at)
    ends_told c h e at t = own_fault c.error at t (ends_at c h e)

  any_tells_is : (f : Option Fault) (cs : List Claim) → any_tells w f cs ≡ true → (c : Claim) × In c cs × (tells w f c ≡ true)
  any_tells_is f [] e = absurd (cc)
  any_tells_is f (c ∷ cs) e = by_case (or_cases (tells w f c) (any_tells w f cs) e) (λ k. any_tells_is f cs k) where
    by_case : (tells w f c ≡ true) ⊎ (any_tells w f cs ≡ true) → (any_tells w f cs ≡ true → (d : Claim) × In d cs × (tells w f d ≡ true))
        → (d : Claim) × In d (c ∷ cs) × (tells w f d ≡ true)
    by_case (inl k) later = (c, inl refl, k)
    by_case (inr k) later = let r = later k in (r.0, inr r.1, r.2)

  is_any_tells : (f : Option Fault) (cs : List Claim) (c : Claim) → In c cs → tells w f c ≡ true → any_tells w f cs ≡ true
  is_any_tells f [] c h e = absurd h
  is_any_tells f (d ∷ cs) c (inl h) e = or_left (tells w f d) (any_tells w f cs) (subst (λ (x : Claim). tells w f x ≡ true) h e)
  is_any_tells f (d ∷ cs) c (inr h) e = or_right (tells w f d) (any_tells w f cs) (is_any_tells f cs c h e)

  told_here_is : (f : Option Fault) (cs : List Claim) (n : ℕ) → In n (told_here w f cs) → Some_of (λ c. tells w f c ≡ true) n cs
  told_here_is f [] n h = absurd h
  told_here_is f (c ∷ cs) n h = by_case (tells w f c) refl h (λ k. told_here_is f cs n k) where
    later : Some_of (λ d. tells w f d ≡ true) n cs → Some_of (λ d. tells w f d ≡ true) n (c ∷ cs)
    later found = record { claim = found.claim; there = inr found.there; number = found.number; holds = found.holds }

    by_case : (b : Bool) → tells w f c ≡ b → In n ((if b then c.number ∷ [] else []) ++ told_here w f cs)
        → (In n (told_here w f cs) → Some_of (λ d. tells w f d ≡ true) n cs) → Some_of (λ d. tells w f d ≡ true) n (c ∷ cs)
    by_case true e (inl k) deeper = record { claim = c; there = inl refl; number = sym k; holds = e }
    by_case true e (inr k) deeper = later (deeper k)
    by_case false e k deeper = later (deeper k)

  is_told_here : (f : Option Fault) (cs : List Claim) (c : Claim) → In c cs → tells w f c ≡ true → In c.number (told_here w f cs)
  is_told_here f [] c h e = absurd h
  is_told_here f (d ∷ cs) c (inl h) e =
      subst (λ (x : Claim). In c.number ((if tells w f x then x.number ∷ [] else []) ++ told_here w f cs)) h
      (subst (λ b. In c.number ((if b then c.number ∷ [] else []) ++ told_here w f cs)) (sym e) (inl refl))
  is_told_here f (d ∷ cs) c (inr h) e = in_back c.number (if tells w f d then d.number ∷ [] else []) (told_here w f cs) (is_told_here f cs c h e)

  -- ---- a place

  module _ (spot : Spot G) (outcome : Outcome X) (reached : IsReached spot outcome) (cs : List Claim) (aligned : Aligned w root initial all K (trail spot) cs)
      (inner : Found) (inside_facts : Inner w root initial all K (held (trail spot)) cs inner) where
    abbrev here : Bool
    here = any_tells w (fault_at w spot outcome) cs

    abbrev arrives : Bool
    arrives = comes w spot outcome cs inner

    here_told : here ≡ true → (c : Claim) × In c cs × Told spot outcome c.error
    here_told e =
        let r = any_tells_is (fault_at w spot outcome) cs e in
        (r.0, r.1, told_by spot outcome reached cs aligned (fault_at w spot outcome) r.0 r.1 refl r.2)

    told_is_here : (c : Claim) → In c cs → shown c.rest ≡ [] → Told spot outcome c.error → here ≡ true
    told_is_here c h e t = is_any_tells (fault_at w spot outcome) cs c h (tells_by spot outcome reached cs aligned c e t)

    -- a null comes to the place itself
    pub comes_sound : arrives ≡ true → Held (held (trail spot))
    comes_sound e = by_case (or_cases here inner.passes e) where
      by_case : (here ≡ true) ⊎ (inner.passes ≡ true) → Held (held (trail spot))
      by_case (inl k) =
          let r = here_told k in
          (r.0.error, (aligned r.0 r.1).1, fault_of spot outcome reached cs aligned r.0.error r.2)
      by_case (inr k) = inside_facts.passes_sound k

    pub comes_whole : (c : Claim) → In c cs → At c.error (held (trail spot)) → arrives ≡ true
    comes_whole c h t = by_rest (shown c.rest) refl where
      by_rest : (r : List Segment) → shown c.rest ≡ r → arrives ≡ true
      by_rest [] e = or_left here inner.passes (told_is_here c h e (ends_told spot outcome reached cs aligned c h e _ t).0)
      by_rest (s ∷ q) e = or_right here inner.passes (inside_facts.passes_whole c h s q e t)

    strict_held : is_non_null spot.type ≡ true → held (trail spot) ≡ held spot.around
    strict_held s = rw s refl

    loose_held : is_non_null spot.type ≡ false → held (trail spot) ≡ Some (trail spot)
    loose_held e = rw e refl

    -- what passes out of the place goes out of it by its type
    is_out : (front : Trail) → held (front ++ trail spot) ≡ held spot.around → is_non_null spot.type ≡ true
    is_out front h = by_case (is_non_null spot.type) refl where
      by_case : (b : Bool) → is_non_null spot.type ≡ b → is_non_null spot.type ≡ true
      by_case true k = k
      by_case false k = absurd (never_past front (spot.step, spot.type) spot.around k h)

    -- a fault inside is farther in
    inside_start : (e : GraphQLError) (at : Option Trail) → At e at → (s : Segment) (q : List Segment) → shown e.path ≡ way_to spot ++ s ∷ q
        → (front : Trail) × (held (front ++ trail spot) ≡ at)
    inside_start e at t s q path =
        let f = t.1 in
        let i = within w root initial all lawful f.reached spot outcome reached s q (fault_way e at t ∙ path) in
        ((f.spot.step, f.spot.type) ∷ i.front, ap held (ap (λ (u : Trail). (f.spot.step, f.spot.type) ∷ u) (sym i.around)) ∙ f.holds)

    passes_sound_here : (arrives && is_non_null spot.type) ≡ true → Held (held spot.around)
    passes_sound_here e =
        let b = and_both arrives (is_non_null spot.type) e in
        subst Held (strict_held b.1) (comes_sound b.0)

    passes_whole_here : (c : Claim) → In c cs → At c.error (held spot.around) → (arrives && is_non_null spot.type) ≡ true
    passes_whole_here c h t = by_rest (shown c.rest) refl where
      outward : is_non_null spot.type ≡ true → (arrives && is_non_null spot.type) ≡ true
      outward s = and_made arrives (is_non_null spot.type) (comes_whole c h (subst (λ (o : Option Trail). At c.error o) (sym (strict_held s)) t)) s

      by_rest : (r : List Segment) → shown c.rest ≡ r → (arrives && is_non_null spot.type) ≡ true
      by_rest [] e = outward (is_out [] (ends_told spot outcome reached cs aligned c h e _ t).1)
      by_rest (s ∷ q) e =
          let i = inside_start c.error (held spot.around) t s q (goes_at spot outcome reached cs aligned c h s q e) in
          outward (is_out i.0 i.1)

    abbrev told_all : List ℕ
    told_all = told_here w (fault_at w spot outcome) cs ++ inner.told

    told_sound_here : (n : ℕ) → In n told_all → Some_of (λ c. True c.error) n cs
    told_sound_here n h = by_case (in_either n (told_here w (fault_at w spot outcome) cs) inner.told h) where
      by_case : In n (told_here w (fault_at w spot outcome) cs) ⊎ In n inner.told → Some_of (λ c. True c.error) n cs
      by_case (inl k) =
          let found = told_here_is (fault_at w spot outcome) cs n k in
          let told = told_by spot outcome reached cs aligned (fault_at w spot outcome) found.claim found.there refl found.holds in
          record {
            claim = found.claim;
            there = found.there;
            number = found.number;
            holds = true_at w root initial all K found.claim.error (held (trail spot)) (fault_of spot outcome reached cs aligned found.claim.error told);
          }
      by_case (inr k) = inside_facts.told_sound n k

    told_whole_here : (c : Claim) → In c cs → True c.error → In c.number told_all
    told_whole_here c h t = by_rest (shown c.rest) refl where
      by_rest : (r : List Segment) → shown c.rest ≡ r → In c.number told_all
      by_rest [] e =
          let at = at_true w root initial all K c.error t in
          in_front c.number (told_here w (fault_at w spot outcome) cs) inner.told
          (is_told_here (fault_at w spot outcome) cs c h (tells_by spot outcome reached cs aligned c e (ends_told spot outcome reached cs aligned c h e at.0 at.1).0))
      by_rest (s ∷ q) e = in_back c.number (told_here w (fault_at w spot outcome) cs) inner.told (inside_facts.told_whole c h s q e t)

    pub settled_facts : (v : Option Value) → Facts w root initial all K (held spot.around) cs (settled w spot outcome v cs inner)
    settled_facts v = record {
      passes_sound = passes_sound_here;
      passes_whole = passes_whole_here;
      told_sound = told_sound_here;
      told_whole = told_whole_here;
    }

    -- ---- the value at the place

    abbrev holds_null : Bool
    holds_null = arrives && not (is_non_null spot.type)

    null_good : (v : Value) → (holds_null && is_null v) ≡ true → IsGood w root initial all Shown spot outcome v
    null_good v e =
        let b = and_both holds_null (is_null v) e in
        let k = and_both arrives (not (is_non_null spot.type)) b.0 in
        let at : held (trail spot) ≡ Some (trail spot) = loose_held (not_true (is_non_null spot.type) k.1) in
        subst (λ (u : Value). IsGood w root initial all Shown spot outcome u) (sym (null_same v b.1))
        (null_held (holds_of (Some (trail spot)) (subst Held at (comes_sound k.0))))

    -- a listed fault that is held at the place comes to it
    good_null : Covers w root initial all K (trail spot) cs → Holds w root initial all Shown (Some (trail spot)) → holds_null ≡ true
    good_null covers h = by_strict (is_non_null spot.type) refl where
      f : IsFault w root initial all h.0 (Some (trail spot))
      f = h.2

      out : IsOut (trail f.spot) (trail spot)
      out = held_out (trail f.spot) (trail spot) f.holds

      e : GraphQLError
      e = h.1.0

      tells_it : At e (Some (trail spot))
      tells_it = (h.0, h.2, h.1.2)

      on_path : shown e.path ≡ way_to spot ++ shown (path_of out.front)
      on_path = sym (fault_way e (Some (trail spot)) tells_it) ∙ ap (λ (t : Trail). shown (path_of t)) out.is ∙ way_append out.front (trail spot)

      by_strict : (b : Bool) → is_non_null spot.type ≡ b → holds_null ≡ true
      by_strict true s = absurd (held_nullable (trail f.spot) (spot.step, spot.type) spot.around f.holds s)
      by_strict false s =
          let c = covers e h.1.1 (shown (path_of out.front)) on_path in
          let at : At c.0.error (held (trail spot)) =
          subst (λ (x : GraphQLError). At x (held (trail spot))) (sym c.2) (subst (λ (o : Option Trail). At e o) (sym (loose_held s)) tells_it) in
          and_made arrives (not (is_non_null spot.type)) (comes_whole c.0 c.1 at) (not_made (is_non_null spot.type) s)

    pub settled_good : (u : Value) → (is_given w spot outcome u ≡ true → inner.bad ≡ None → IsGood w root initial all Shown spot outcome u)
        → (settled w spot outcome (Some u) cs inner).bad ≡ None → IsGood w root initial all Shown spot outcome u
    settled_good u given e = by_null (holds_null && is_null u) refl e where
      by_given : (b : Bool) → is_given w spot outcome u ≡ b → (if b then inner.bad else Some (path_of (trail spot))) ≡ None → IsGood w root initial all Shown spot outcome u
      by_given true k h = given k h
      by_given false k h = absurd (cc)

      by_null : (b : Bool) → (holds_null && is_null u) ≡ b
          → (if b then None else (if is_given w spot outcome u then inner.bad else Some (path_of (trail spot)))) ≡ None → IsGood w root initial all Shown spot outcome u
      by_null true k h = null_good u k
      by_null false k h = by_given (is_given w spot outcome u) refl h

    pub kept_bad : (u : Value) → is_given w spot outcome u ≡ true → inner.bad ≡ None → (settled w spot outcome (Some u) cs inner).bad ≡ None
    kept_bad u k h = by_null (holds_null && is_null u) refl where
      by_null : (b : Bool) → (holds_null && is_null u) ≡ b
          → (if b then None else (if is_given w spot outcome u then inner.bad else Some (path_of (trail spot)))) ≡ None
      by_null true e = refl
      by_null false e = rw k h

    pub shows_null : Covers w root initial all K (trail spot) cs → Holds w root initial all Shown (Some (trail spot)) → (holds_null && is_null json.Null) ≡ true
    shows_null covers h = and_made holds_null (is_null json.Null) (good_null covers h) null_null

    pub null_bad : Covers w root initial all K (trail spot) cs → Holds w root initial all Shown (Some (trail spot)) → (settled w spot outcome (Some json.Null) cs inner).bad ≡ None
    null_bad covers h = rw (shows_null covers h) refl

    -- a path that is told is the place's own, or one from inside a value that may stand there
    pub settled_bad : (u : Value) (p : List Segment) → (Fits w root initial all Shown spot outcome u → ((holds_null && is_null u) ≡ true) ⊎ (is_given w spot outcome u ≡ true))
        → (is_given w spot outcome u ≡ true → inner.bad ≡ Some p → FirstBad w root initial all Shown spot outcome u p)
        → (settled w spot outcome (Some u) cs inner).bad ≡ Some p → FirstBad w root initial all Shown spot outcome u p
    settled_bad u p fitting_shows deeper e = by_null (holds_null && is_null u) refl e where
      neither : (holds_null && is_null u) ≡ false → is_given w spot outcome u ≡ false
          → ((holds_null && is_null u) ≡ true) ⊎ (is_given w spot outcome u ≡ true) → ⊥
      neither a b (inl c) = let wrong : true ≡ false = sym c ∙ a in cc
      neither a b (inr c) = let wrong : true ≡ false = sym c ∙ b in cc

      by_given : (holds_null && is_null u) ≡ false → (b : Bool) → is_given w spot outcome u ≡ b → (if b then inner.bad else Some (path_of (trail spot))) ≡ Some p
          → FirstBad w root initial all Shown spot outcome u p
      by_given n true k h = deeper k h
      by_given n false k h =
          let same : path_of (trail spot) ≡ p = cc in
          subst (λ r. FirstBad w root initial all Shown spot outcome u r) same (unfit (λ fits. neither n k (fitting_shows fits)))

      by_null : (b : Bool) → (holds_null && is_null u) ≡ b
          → (if b then None else (if is_given w spot outcome u then inner.bad else Some (path_of (trail spot)))) ≡ Some p → FirstBad w root initial all Shown spot outcome u p
      by_null true k h = absurd (cc)
      by_null false k h = by_given k (is_given w spot outcome u) refl h
