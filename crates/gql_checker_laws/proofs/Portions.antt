-- Which claims go on by a step.
use Rattle.std.proofs.Common.{◌≡◌, ℕ, List, [], ◌∷◌, ◌++◌, Bool, true, false, if◌then◌else◌, refl, sym, subst, ap, ◌∙◌, inl, inr, ◌⊎◌}
use Rattle.gql_response.specs.Held.{unplaced_segment}
use Rattle.gql_resolvers.specs.Trail.{Segment, shown}
use Rattle.gql_checker_laws.specs.Shows.{same_segment}
use Rattle.gql_checker_laws.specs.Claims.{Claim, share_one, share}
use Rattle.gql_checker_laws.proofs.Shown.{segment_same, same_is_segment}

abbrev pub In : {A : Type 0} → A → List A → Type 0
In x [] = ⊥
In x (y ∷ ys) = (x ≡ y) ⊎ In x ys

pub in_front : {A : Type 0} (x : A) (xs ys : List A) → In x xs → In x (xs ++ ys)
in_front x [] ys h = absurd h
in_front x (y ∷ xs) ys (inl h) = inl h
in_front x (y ∷ xs) ys (inr h) = inr (in_front x xs ys h)

pub in_back : {A : Type 0} (x : A) (xs ys : List A) → In x ys → In x (xs ++ ys)
in_back x [] ys h = h
in_back x (y ∷ xs) ys h = inr (in_back x xs ys h)

pub in_either : {A : Type 0} (x : A) (xs ys : List A) → In x (xs ++ ys) → In x xs ⊎ In x ys
in_either x [] ys h = inr h
in_either x (y ∷ xs) ys (inl h) = inl (inl h)
in_either x (y ∷ xs) ys (inr h) = by_case (in_either x xs ys h) where
  by_case : In x xs ⊎ In x ys → In x (y ∷ xs) ⊎ In x ys
  by_case (inl k) = inl (inr k)
  by_case (inr k) = inr k

-- a claim of this number is among them, and of it this holds
pub record Some_of (P : Claim → Type 0) (n : ℕ) (cs : List Claim) : Type 0 where
  pub claim : Claim
  pub there : In claim cs
  pub number : claim.number ≡ n
  pub holds : P claim

abbrev pub stepped : Claim → List Segment → Claim
stepped c rest = record c { rest = rest }

share_from : (s : Segment) (c d : Claim) (r : List Segment) → In c (share_one s d r)
    → (q : List Segment) × (shown r ≡ unplaced_segment s ∷ shown q) × (c ≡ stepped d q)
share_from s c d [] h = absurd h
share_from s c d (t ∷ r) h = by_case (same_segment s t) refl h where
  by_case : (b : Bool) → same_segment s t ≡ b → In c (if b then stepped d r ∷ [] else [])
      → (q : List Segment) × (shown (t ∷ r) ≡ unplaced_segment s ∷ shown q) × (c ≡ stepped d q)
  by_case true e (inl k) = (r, ap (λ u. u ∷ shown r) (sym (segment_same s t e)), k)
  by_case true e (inr k) = absurd k
  by_case false e k = absurd k

-- what is shared comes from a claim that goes on by the step
pub record Comes_from (s : Segment) (c : Claim) (cs : List Claim) : Type 0 where
  pub whole : Claim
  pub there : In whole cs
  pub rest : shown whole.rest ≡ unplaced_segment s ∷ shown c.rest
  pub error : whole.error ≡ c.error
  pub number : whole.number ≡ c.number

pub from_share : (s : Segment) (c : Claim) (cs : List Claim) → In c (share s cs) → Comes_from s c cs
from_share s c [] h = absurd h
from_share s c (d ∷ cs) h = by_case (in_either c (share_one s d d.rest) (share s cs) h) (λ k. from_share s c cs k) where
  by_case : In c (share_one s d d.rest) ⊎ In c (share s cs) → (In c (share s cs) → Comes_from s c cs) → Comes_from s c (d ∷ cs)
  by_case (inl k) later =
      let e = share_from s c d d.rest k in
      record {
        whole = d;
        there = inl refl;
        rest = e.1 ∙ ap (λ l. unplaced_segment s ∷ shown l) (sym (ap (λ (x : Claim). x.rest) e.2));
        error = sym (ap (λ (x : Claim). x.error) e.2);
        number = sym (ap (λ (x : Claim). x.number) e.2);
      }
  by_case (inr k) later =
      let e = later k in
      record { whole = e.whole; there = inr e.there; rest = e.rest; error = e.error; number = e.number }

-- a claim that goes on by the step is shared, with so many steps left
pub record Goes_to (s : Segment) (q : List Segment) (c : Claim) (cs : List Claim) : Type 0 where
  pub rest : List Segment
  pub shows : shown rest ≡ q
  pub there : In (stepped c rest) cs

share_here : (s : Segment) (c : Claim) (r q : List Segment) → shown r ≡ unplaced_segment s ∷ q → Goes_to s q c (share_one s c r)
share_here s c [] q e = absurd (cc)
share_here s c (t ∷ r) q e =
    let a : unplaced_segment t ≡ unplaced_segment s = cc in
    let b : shown r ≡ q = cc in
    record { rest = r; shows = b; there = subst (λ v. In (stepped c r) (if v then stepped c r ∷ [] else [])) (sym (same_is_segment s t (sym a))) (inl refl) }

pub to_share : (s : Segment) (c : Claim) (cs : List Claim) (q : List Segment) → In c cs → shown c.rest ≡ unplaced_segment s ∷ q → Goes_to s q c (share s cs)
to_share s c [] q h e = absurd h
to_share s c (d ∷ cs) q (inl h) e =
    let g = share_here s c c.rest q e in
    record {
      rest = g.rest;
      shows = g.shows;
      there = subst (λ (x : Claim). In (stepped c g.rest) (share_one s x x.rest ++ share s cs)) h (in_front (stepped c g.rest) (share_one s c c.rest) (share s cs) g.there);
    }
to_share s c (d ∷ cs) q (inr h) e =
    let g = to_share s c cs q h e in
    record { rest = g.rest; shows = g.shows; there = in_back (stepped c g.rest) (share_one s d d.rest) (share s cs) g.there }
