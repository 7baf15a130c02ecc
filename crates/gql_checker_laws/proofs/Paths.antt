-- What is at the end of a path that goes on from a place is inside it; and no null passes a place whose type may be null.
use Rattle.std.proofs.Common.{◌≡◌, suc, ◌≤◌, List, [], ◌∷◌, ◌++◌, length, Option, Some, None, Bool, true, false, if◌then◌else◌, refl, sym, subst, ap, ◌∙◌, inl, inr, ◌⊎◌, arith, append_assoc, append-nil, length-append}
use Rattle.gql_ast_base.specs.TypeParts.{is_non_null}
use Rattle.gql_ast_base.specs.declared.type_ref.TypeRef.{TypeRef}
use Rattle.gql_response.specs.Held.{unplaced_segment}
use Rattle.gql_resolvers.proofs.OnePlace.{one_place}
use Rattle.gql_resolvers.proofs.Steps.{map_joined}
use Rattle.gql_resolvers.proofs.Unique.{fields_around, inside_around}
use Rattle.gql_resolvers.specs.Resolved.{Meaning, Outcome, answered}
use Rattle.gql_resolvers.specs.World.{World, IsLawful}
use Rattle.gql_resolvers.specs.Trail.{Segment, Trail, path_of, shown, held}
use Rattle.gql_resolvers.specs.Spot.{Spot, trail}
use Rattle.gql_resolvers.specs.Reached.{Place, IsAmong, fields_of, inside, Reaches, at_root, at_inside}

abbrev pub HasStep : {X G : Type 0} → Segment → List (Place G X) → Type 0
HasStep s [] = ⊥
HasStep s (p ∷ ps) = (s ≡ unplaced_segment p.0.step) ⊎ HasStep s ps

pub among_step : {X G : Type 0} (ps : List (Place G X)) (q : Spot G) (a : Outcome X) → IsAmong q a ps → HasStep (unplaced_segment q.step) ps
among_step [] q a h = absurd h
among_step {G = G} (p ∷ ps) q a (inl h) = inl (ap (λ (s : Spot G). unplaced_segment s.step) h.0)
among_step (p ∷ ps) q a (inr h) = inr (among_step ps q a h)

snoc_length : {A : Type 0} (xs : List A) (x : A) → length (xs ++ x ∷ []) ≡ suc (length xs)
snoc_length xs x = let e = length-append xs (x ∷ []) in omega (arith, e)

-- a list with one more at its end is another that goes on: by this one alone, or by more
abbrev Splits : {A : Type 0} → List A → A → List A → A → List A → Type 0
Splits {A} xs x ys s r = ((r ≡ []) × (xs ≡ ys) × (x ≡ s)) ⊎ ((q : List A) × (xs ≡ ys ++ s ∷ q))

no_more : {A : Type 0} (x s : A) (ys r : List A) → x ∷ [] ≡ ys ++ s ∷ r → ((r ≡ []) × ([] ≡ ys) × (x ≡ s))
no_more x s [] r e = let a : x ≡ s = cc in let b : r ≡ [] = cc in (b, refl, a)
no_more x s (y ∷ ys) r e =
    let n : length (x ∷ []) ≡ length ((y ∷ ys) ++ s ∷ r) = ap length e in
    let m = length-append (y ∷ ys) (s ∷ r) in
    absurd (omega (arith, n, m))

splits_then : {A : Type 0} (z : A) (xs : List A) (x : A) (ys : List A) (s : A) (r : List A) → Splits xs x ys s r → Splits (z ∷ xs) x (z ∷ ys) s r
splits_then z xs x ys s r (inl h) = inl (h.0, ap (λ l. z ∷ l) h.1, h.2)
splits_then z xs x ys s r (inr h) = inr (h.0, ap (λ l. z ∷ l) h.1)

splits : {A : Type 0} (xs : List A) (x : A) (ys : List A) (s : A) (r : List A) → xs ++ x ∷ [] ≡ ys ++ s ∷ r → Splits xs x ys s r
splits [] x ys s r e = let h = no_more x s ys r e in inl h
splits (z ∷ xs) x [] s r e =
    let a : z ≡ s = cc in
    let b : xs ++ x ∷ [] ≡ r = cc in
    inr (xs, ap (λ c. c ∷ xs) a)
splits (z ∷ xs) x (y ∷ ys) s r e =
    let a : z ≡ y = cc in
    let b : xs ++ x ∷ [] ≡ ys ++ s ∷ r = cc in
    subst (λ c. Splits (z ∷ xs) x (c ∷ ys) s r) a (splits_then z xs x ys s r (splits xs x ys s r b))

-- ---- paths as they are shown

abbrev pub way_to : {G : Type 0} → Spot G → List Segment
way_to spot = shown (path_of (trail spot))

pub way_end : {G : Type 0} (s : Spot G) → way_to s ≡ shown (path_of s.around) ++ unplaced_segment s.step ∷ []
way_end s = map_joined unplaced_segment (path_of s.around) (s.step ∷ [])

pub way_long : {G : Type 0} (s : Spot G) → 1 ≤ length (way_to s)
way_long s =
    let n : length (way_to s) ≡ length (shown (path_of s.around) ++ unplaced_segment s.step ∷ []) = ap length (way_end s) in
    let m = snoc_length (shown (path_of s.around)) (unplaced_segment s.step) in
    omega (arith, n, m)

path_append : (ts us : Trail) → path_of (ts ++ us) ≡ path_of us ++ path_of ts
path_append [] us = sym (append-nil (path_of us))
path_append (t ∷ ts) us = ap (λ l. l ++ t.0 ∷ []) (path_append ts us) ∙ append_assoc (path_of us) (path_of ts) (t.0 ∷ [])

pub way_append : (ts us : Trail) → shown (path_of (ts ++ us)) ≡ shown (path_of us) ++ shown (path_of ts)
way_append ts us = ap shown (path_append ts us) ∙ map_joined unplaced_segment (path_of us) (path_of ts)

module _ {X T G S : Type 0} (w : World X T G S) (root : T) (initial : X) (all : S) (lawful : IsLawful w) where
  abbrev IsReached : Spot G → Outcome X → Type 0
  IsReached = Reaches w root initial all

  -- the root's places have one step, and those inside others more
  root_short : (s : Spot G) (a : Outcome X) → IsAmong s a (fields_of w root initial [] (w.groups root all)) → way_to s ≡ unplaced_segment s.step ∷ []
  root_short s a h = way_end s ∙ ap (λ (t : Trail). shown (path_of t) ++ unplaced_segment s.step ∷ []) (fields_around w root initial all lawful root initial [] _ s a h)

  inside_way : (outer : Spot G) (m : Meaning X) (s : Spot G) (a : Outcome X) → IsAmong s a (inside w outer m) → way_to s ≡ way_to outer ++ unplaced_segment s.step ∷ []
  inside_way outer m s a h = way_end s ∙ ap (λ (t : Trail). shown (path_of t) ++ unplaced_segment s.step ∷ []) (inside_around w root initial all lawful outer m s a h)

  -- a place whose path goes on from another's is inside that one
  pub record Within (spot : Spot G) (outcome : Outcome X) (q : Spot G) (s : Segment) : Type 0 where
    pub front : Trail
    pub around : q.around ≡ front ++ trail spot
    pub meaning : Meaning X
    pub is : outcome ≡ answered meaning
    pub fits : w.misfit spot.type meaning ≡ None
    pub step : HasStep s (inside w spot meaning)

  pub within : {q : Spot G} {b : Outcome X} → IsReached q b → (spot : Spot G) (outcome : Outcome X) → IsReached spot outcome → (s : Segment) (r : List Segment)
      → way_to q ≡ way_to spot ++ s ∷ r → Within spot outcome q s
  within {q = q} {b = b} (at_root h) spot outcome reached s r e =
      let one : length (way_to q) ≡ 1 = ap length (root_short q b h) in
      let more : length (way_to q) ≡ length (way_to spot ++ s ∷ r) = ap length e in
      let sum = length-append (way_to spot) (s ∷ r) in
      let long = way_long spot in
      absurd (omega (arith, one, more, sum, long))
  within {q = q} {b = b} (at_inside outer m o fits h) spot outcome reached s r e =
      by_case (splits (way_to outer) (unplaced_segment q.step) (way_to spot) s r (sym (inside_way outer m q b h) ∙ e))
      (λ r2 k. within o spot outcome reached s r2 k) where
        by_case : Splits (way_to outer) (unplaced_segment q.step) (way_to spot) s r
            → ((r2 : List Segment) → way_to outer ≡ way_to spot ++ s ∷ r2 → Within spot outcome outer s)
            → Within spot outcome q s
        by_case (inl k) deeper =
            let one = one_place w root initial all lawful o reached k.1 in
            record {
              front = [];
              around = inside_around w root initial all lawful outer m q b h ∙ ap trail one.0;
              meaning = m;
              is = sym one.1;
              fits = subst (λ (p : Spot G). w.misfit p.type m ≡ None) one.0 fits;
              step = subst (λ (p : Spot G). HasStep s (inside w p m)) one.0 (subst (λ t. HasStep t (inside w outer m)) k.2 (among_step (inside w outer m) q b h));
            }
        by_case (inr k) deeper =
            let d = deeper k.0 k.1 in
            record {
              front = (outer.step, outer.type) ∷ d.front;
              around = inside_around w root initial all lawful outer m q b h ∙ ap (λ (t : Trail). (outer.step, outer.type) ∷ t) d.around;
              meaning = d.meaning;
              is = d.is;
              fits = d.fits;
              step = d.step;
            }

  -- and from the root on it begins with the step of one of the root's groups
  pub root_step : {q : Spot G} {b : Outcome X} → IsReached q b → (s : Segment) (r : List Segment) → way_to q ≡ s ∷ r
      → HasStep s (fields_of w root initial [] (w.groups root all))
  root_step {q = q} {b = b} (at_root h) s r e =
      by_case (splits [] (unplaced_segment q.step) [] s r (sym (root_short q b h) ∙ e)) where
        by_case : Splits [] (unplaced_segment q.step) [] s r → HasStep s (fields_of w root initial [] (w.groups root all))
        by_case (inl k) = subst (λ t. HasStep t (fields_of w root initial [] (w.groups root all))) k.2 (among_step _ q b h)
        by_case (inr k) = absurd (let n : length {A = Segment} [] ≡ length (s ∷ k.0) = ap length k.1 in omega (arith, n))
  root_step {q = q} {b = b} (at_inside outer m o fits h) s r e =
      by_case (splits (way_to outer) (unplaced_segment q.step) [] s r (sym (inside_way outer m q b h) ∙ e)) (λ r2 k. root_step o s r2 k) where
        by_case : Splits (way_to outer) (unplaced_segment q.step) [] s r
            → ((r2 : List Segment) → way_to outer ≡ s ∷ r2 → HasStep s (fields_of w root initial [] (w.groups root all)))
            → HasStep s (fields_of w root initial [] (w.groups root all))
        by_case (inl k) deeper = absurd (let n : length (way_to outer) ≡ 0 = ap length k.1 in let long = way_long outer in omega (arith, n, long))
        by_case (inr k) deeper = deeper k.0 k.1

-- ---- where a null is held

-- where it is held stands a place whose type may be null
pub held_nullable : (t : Trail) (s : Segment × TypeRef) (ts : Trail) → held t ≡ Some (s ∷ ts) → is_non_null s.1 ≡ true → ⊥
held_nullable [] s ts h strict = cc
held_nullable (u ∷ us) s ts h strict = by_case (is_non_null u.1) refl h (λ k. held_nullable us s ts k strict) where
  by_case : (b : Bool) → is_non_null u.1 ≡ b → (if b then held us else Some (u ∷ us)) ≡ Some (s ∷ ts) → (held us ≡ Some (s ∷ ts) → ⊥) → ⊥
  by_case true e k onward = onward k
  by_case false e k onward =
      let same : u ≡ s = cc in
      let wrong : false ≡ true = sym e ∙ ap (λ (p : Segment × TypeRef). is_non_null p.1) same ∙ strict in
      cc

-- at the trail itself, or farther out
pub record IsOut (t u : Trail) : Type 0 where
  pub front : Trail
  pub is : t ≡ front ++ u

pub held_out : (t u : Trail) → held t ≡ Some u → IsOut t u
held_out [] u h = absurd (cc)
held_out (x ∷ t) u h = by_case (is_non_null x.1) h (λ k. held_out t u k) where
  by_case : (b : Bool) → (if b then held t else Some (x ∷ t)) ≡ Some u → (held t ≡ Some u → IsOut t u) → IsOut (x ∷ t) u
  by_case true k onward = let o = onward k in record { front = x ∷ o.front; is = ap (λ (l : Trail). x ∷ l) o.is }
  by_case false k onward = let same : x ∷ t ≡ u = cc in record { front = []; is = same }

out_short : (t u : Trail) → IsOut t u → length u ≤ length t
out_short t u o = let e : length t ≡ length (o.front ++ u) = ap length o.is in let sum = length-append o.front u in omega (arith, e, sum)

-- no null passes a place whose type may be null
pub never_past : (front : Trail) (x : Segment × TypeRef) (t : Trail) → is_non_null x.1 ≡ false → held (front ++ x ∷ t) ≡ held t → ⊥
never_past front x t e same = by_case (held t) refl (stops front) where
  stops : (front : Trail) → (u : Trail) × (held (front ++ x ∷ t) ≡ Some u) × (suc (length t) ≤ length u)
  stops [] = (x ∷ t, rw e refl, omega arith)
  stops (y ∷ ys) = by_strict (is_non_null y.1) refl (stops ys) where
    by_strict : (b : Bool) → is_non_null y.1 ≡ b → (u : Trail) × (held (ys ++ x ∷ t) ≡ Some u) × (suc (length t) ≤ length u)
        → (u : Trail) × ((if b then held (ys ++ x ∷ t) else Some (y ∷ (ys ++ x ∷ t))) ≡ Some u) × (suc (length t) ≤ length u)
    by_strict true f k = k
    by_strict false f k = (y ∷ (ys ++ x ∷ t), refl, let sum = length-append ys (x ∷ t) in omega (arith, sum))

  by_case : (o : Option Trail) → held t ≡ o → (u : Trail) × (held (front ++ x ∷ t) ≡ Some u) × (suc (length t) ≤ length u) → ⊥
  by_case None f k = let wrong : None ≡ Some k.0 = sym f ∙ sym same ∙ k.1 in cc
  by_case (Some v) f k =
      let is : Some v ≡ Some k.0 = sym f ∙ sym same ∙ k.1 in
      let one : v ≡ k.0 = cc in
      let short = out_short t v (held_out t v f) in
      let n : length v ≡ length k.0 = ap length one in
      let long : suc (length t) ≤ length k.0 = k.2 in
      omega (arith, short, n, long)
