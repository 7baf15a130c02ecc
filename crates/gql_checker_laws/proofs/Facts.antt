-- What is found of claims, and what holds of it.
use Rattle.std.proofs.Common.{◌≡◌, ℕ, List, [], ◌∷◌, ◌++◌, Option, Some, None, true, sym, subst, ap, ◌∙◌, inl, inr, ◌⊎◌}
use Rattle.std.specs.Prelude.{◌||◌}
use Rattle.jb_tree.specs.declared.value.Value.{Value}
use Rattle.gql_response.specs.Held.{unplaced_error}
use Rattle.gql_response.specs.declared.graphql_error.GraphQLError.{GraphQLError}
use Rattle.gql_resolvers.specs.World.{World}
use Rattle.gql_resolvers.specs.Trail.{Segment, Trail, path_of, shown}
use Rattle.gql_resolvers.specs.Reached.{Place}
use Rattle.gql_resolvers.specs.Explained.{IsFault}
use Rattle.gql_checker_laws.specs.Claims.{Claim, Found, nothing, both, share}
use Rattle.gql_checker_laws.specs.Tells.{Tells}
use Rattle.gql_checker_laws.specs.Walk.{unless_idle}
use Rattle.gql_checker_laws.proofs.Parts.{or_left, or_right, or_cases}
use Rattle.gql_checker_laws.proofs.Paths.{HasStep}
use Rattle.gql_checker_laws.proofs.Portions.{In, in_front, in_back, in_either, Some_of, stepped, from_share, to_share}

module _ {X T G S : Type 0} (w : World X T G S) (root : T) (initial : X) (all : S) (K : GraphQLError → Type 0) where
  -- the error shows a true fault that is held there
  abbrev pub TellsAt : GraphQLError → Option Trail → Type 0
  TellsAt error at = (fault : GraphQLError) × IsFault w root initial all fault at × (unplaced_error fault ≡ unplaced_error error)

  abbrev pub IsTrue : GraphQLError → Type 0
  IsTrue = Tells w root initial all

  abbrev pub true_at : (e : GraphQLError) (at : Option Trail) → TellsAt e at → IsTrue e
  true_at e at t = (t.0, (at, t.1), t.2)

  abbrev pub at_true : (e : GraphQLError) → IsTrue e → (at : Option Trail) × TellsAt e at
  at_true e t = (t.1.0, (t.0, t.1.1, t.2))

  -- a listed error whose null is held there
  abbrev pub SomeHeld : Option Trail → Type 0
  SomeHeld at = (e : GraphQLError) × K e × TellsAt e at

  -- each claim is a listed error whose path goes on so from the trail
  abbrev pub Aligned : Trail → List Claim → Type 0
  Aligned outer cs = (c : Claim) → In c cs → (shown c.error.path ≡ shown (path_of outer) ++ shown c.rest) × K c.error

  -- each listed error whose path goes on from the trail is claimed
  abbrev pub Covers : Trail → List Claim → Type 0
  Covers outer cs = (e : GraphQLError) → K e → (r : List Segment) → shown e.path ≡ shown (path_of outer) ++ r → (c : Claim) × In c cs × (c.error ≡ e) × (shown c.rest ≡ r)

  abbrev pub CoversOn : Trail → List Claim → Type 0
  CoversOn outer cs = (e : GraphQLError) → K e → (s : Segment) (q : List Segment) → shown e.path ≡ shown (path_of outer) ++ s ∷ q
      → (c : Claim) × In c cs × (c.error ≡ e) × (shown c.rest ≡ s ∷ q)

  pub covers_on : (outer : Trail) (cs : List Claim) → Covers outer cs → CoversOn outer cs
  covers_on outer cs k e l s q path = k e l (s ∷ q) path

  -- what is found of claims, where a null that passes is held at this trail
  pub record Facts (at : Option Trail) (cs : List Claim) (f : Found) : Type 0 where
    pub passes_sound : f.passes ≡ true → SomeHeld at
    pub passes_whole : (c : Claim) → In c cs → TellsAt c.error at → f.passes ≡ true
    pub told_sound : (n : ℕ) → In n f.told → Some_of (λ c. IsTrue c.error) n cs
    pub told_whole : (c : Claim) → In c cs → IsTrue c.error → In c.number f.told

  -- the same of the claims alone that go on
  pub record Inner (at : Option Trail) (cs : List Claim) (f : Found) : Type 0 where
    pub passes_sound : f.passes ≡ true → SomeHeld at
    pub passes_whole : (c : Claim) → In c cs → (s : Segment) (q : List Segment) → shown c.rest ≡ s ∷ q → TellsAt c.error at → f.passes ≡ true
    pub told_sound : (n : ℕ) → In n f.told → Some_of (λ c. IsTrue c.error) n cs
    pub told_whole : (c : Claim) → In c cs → (s : Segment) (q : List Segment) → shown c.rest ≡ s ∷ q → IsTrue c.error → In c.number f.told

  -- the same of the claims alone that go on by the step of one of these places
  pub record Partial (at : Option Trail) (ps : List (Place G X)) (cs : List Claim) (f : Found) : Type 0 where
    pub passes_sound : f.passes ≡ true → SomeHeld at
    pub passes_whole : (c : Claim) → In c cs → (s : Segment) (q : List Segment) → shown c.rest ≡ s ∷ q → HasStep s ps → TellsAt c.error at → f.passes ≡ true
    pub told_sound : (n : ℕ) → In n f.told → Some_of (λ c. IsTrue c.error) n cs
    pub told_whole : (c : Claim) → In c cs → (s : Segment) (q : List Segment) → shown c.rest ≡ s ∷ q → HasStep s ps → IsTrue c.error → In c.number f.told

  -- no true error goes on from here
  abbrev pub NoneGoes : List Claim → Type 0
  NoneGoes cs = (c : Claim) → In c cs → IsTrue c.error → (s : Segment) (q : List Segment) → shown c.rest ≡ s ∷ q → ⊥

  pub nothing_inner : (at : Option Trail) (cs : List Claim) → NoneGoes cs → Inner at cs nothing
  nothing_inner at cs none = record {
    passes_sound = λ e. absurd (cc);
    passes_whole = λ c h s q e t. absurd (none c h (true_at c.error at t) s q e);
    told_sound = λ n h. absurd h;
    told_whole = λ c h s q e t. absurd (none c h t s q e);
  }

  pub nothing_partial : (at : Option Trail) (cs : List Claim) → Partial at [] cs nothing
  nothing_partial at cs = record {
    passes_sound = λ e. absurd (cc);
    passes_whole = λ c h s q e k t. absurd k;
    told_sound = λ n h. absurd h;
    told_whole = λ c h s q e k t. absurd k;
  }

  -- of no claims nothing is found
  nothing_facts : (at : Option Trail) → Facts at [] nothing
  nothing_facts at = record {
    passes_sound = λ e. absurd (cc);
    passes_whole = λ c h t. absurd h;
    told_sound = λ n h. absurd h;
    told_whole = λ c h t. absurd h;
  }

  pub idle_facts : (at : Option Trail) (v : Option Value) (cs : List Claim) (f : Found) → Facts at cs f → Facts at cs (unless_idle v cs f)
  idle_facts at None [] f facts = nothing_facts at
  idle_facts at None (c ∷ cs) f facts = facts
  idle_facts at (Some v) cs f facts = facts

  from_shared : (n : ℕ) (s : Segment) (cs : List Claim) → Some_of (λ c. IsTrue c.error) n (share s cs) → Some_of (λ c. IsTrue c.error) n cs
  from_shared n s cs found =
      let o = from_share s found.claim cs found.there in
      record { claim = o.whole; there = o.there; number = o.number ∙ found.number; holds = subst IsTrue (sym o.error) found.holds }

  pub child_partial : (at : Option Trail) (p : Place G X) (ps : List (Place G X)) (cs : List Claim) (f g : Found)
      → Facts at (share p.0.step cs) f → Partial at ps cs g → Partial at (p ∷ ps) cs (both f g)
  child_partial at p ps cs f g a b = record { passes_sound = sound; passes_whole = whole; told_sound = told; told_whole = each } where
    sound : (f.passes || g.passes) ≡ true → SomeHeld at
    sound e = by_case (or_cases f.passes g.passes e) where
      by_case : (f.passes ≡ true) ⊎ (g.passes ≡ true) → SomeHeld at
      by_case (inl h) = a.passes_sound h
      by_case (inr h) = b.passes_sound h

    whole : (c : Claim) → In c cs → (s : Segment) (q : List Segment) → shown c.rest ≡ s ∷ q → HasStep s (p ∷ ps) → TellsAt c.error at → (f.passes || g.passes) ≡ true
    whole c h s q e (inl k) t =
        let goes = to_share p.0.step c cs q h (e ∙ ap (λ u. u ∷ q) k) in
        or_left f.passes g.passes (a.passes_whole (stepped c goes.rest) goes.there t)
    whole c h s q e (inr k) t = or_right f.passes g.passes (b.passes_whole c h s q e k t)

    told : (n : ℕ) → In n (f.told ++ g.told) → Some_of (λ c. IsTrue c.error) n cs
    told n h = by_case (in_either n f.told g.told h) where
      by_case : In n f.told ⊎ In n g.told → Some_of (λ c. IsTrue c.error) n cs
      by_case (inl k) = from_shared n p.0.step cs (a.told_sound n k)
      by_case (inr k) = b.told_sound n k

    each : (c : Claim) → In c cs → (s : Segment) (q : List Segment) → shown c.rest ≡ s ∷ q → HasStep s (p ∷ ps) → IsTrue c.error → In c.number (f.told ++ g.told)
    each c h s q e (inl k) t =
        let goes = to_share p.0.step c cs q h (e ∙ ap (λ u. u ∷ q) k) in
        in_front c.number f.told g.told (a.told_whole (stepped c goes.rest) goes.there t)
    each c h s q e (inr k) t = in_back c.number f.told g.told (b.told_whole c h s q e k t)

  -- where each true error that goes on does so by the step of one of the places
  pub whole_inner : (at : Option Trail) (ps : List (Place G X)) (cs : List Claim) (f : Found)
      → ((c : Claim) → In c cs → IsTrue c.error → (s : Segment) (q : List Segment) → shown c.rest ≡ s ∷ q → HasStep s ps)
      → Partial at ps cs f → Inner at cs f
  whole_inner at ps cs f closed p = record {
    passes_sound = p.passes_sound;
    passes_whole = λ c h s q e t. p.passes_whole c h s q e (closed c h (true_at c.error at t) s q e) t;
    told_sound = p.told_sound;
    told_whole = λ c h s q e t. p.told_whole c h s q e (closed c h t s q e) t;
  }
