-- What holds in the course of a flood.
use Rattle.std.proofs.Common.{◌≡◌, ◌≢◌, ◌⊎◌, inl, inr, ℕ, zero, suc, ◌+◌, ◌<◌, ◌≤◌, Bool, true, false, cond, ◌==◌, Option, Some, None, List, [], ◌∷◌, ◌++◌, length, get_or, set, refl, sym, ap, ◌∙◌, subst, arith, length-append, append_assoc}
use Rattle.std.specs.List.{Contains, slice_get, count_by}
use Rattle.std.proofs.lemmas.List.Elements.{Contains-append_left, Contains-append_right, Contains-get_or, Contains-push, Contains-push_cases}
use Rattle.std.proofs.lemmas.List.{append-nil, get_or_append_left}
use Rattle.std.proofs.lemmas.Grind.{get_or_default_zero}
use Rattle.std.proofs.lemmas.List.Sums.{sum_by-set}
use Rattle.std.proofs.lemmas.Option.{slice_get_within, get_or_from_slice_get}
use Rattle.std.proofs.lemmas.Bool.{eqb-true, eq-eqb}
use Rattle.std.proofs.lemmas.Bool.Decides.{eqb_tells}
use Rattle.gql_graph.specs.Flooding.{has}
use Rattle.gql_graph.specs.bridge.Flooding.{marked, queued, all_marked, all_queued}
use Rattle.gql_graph.specs.Graph.{Graph, row, HasEdge}
use Rattle.gql_graph.specs.bridge.Graph.{WalkOver, here, step, IsReachedOver, IsFlooded}

-- ---- marks
pub get-set_same : {A : Type 0} (xs : List A) (i : ℕ) (x y : A) → slice_get xs i ≡ Some x → slice_get (set xs i y) i ≡ Some y
get-set_same [] i x y is = absurd cc
get-set_same (z ∷ xs) zero x y is = refl
get-set_same (z ∷ xs) (suc i) x y is = get-set_same xs i x y is

pub get-set_other : {A : Type 0} (xs : List A) (i j : ℕ) (y : A) → j ≢ i → slice_get (set xs i y) j ≡ slice_get xs j
get-set_other [] i j y apart = refl
get-set_other (z ∷ xs) zero zero y apart = absurd (apart refl)
get-set_other (z ∷ xs) zero (suc j) y apart = refl
get-set_other (z ∷ xs) (suc i) zero y apart = refl
get-set_other (z ∷ xs) (suc i) (suc j) y apart = get-set_other xs i j y (λ e. apart (ap suc e))

pub same_or_not : (i j : ℕ) → (i ≡ j) ⊎ (i ≢ j)
same_or_not i j = elim (eqb_tells i j) [ inl p ↦ inl p.1 | inr p ↦ inr p.1 ]

other_mark : (a b : ℕ) → a ≢ b → (b == a) ≡ false
other_mark a b apart = elim (eqb_tells b a) [ inl p ↦ absurd (apart (sym p.1)) | inr p ↦ p.0 ]

-- how many nodes have the mark
abbrev pub left : ℕ → List ℕ → ℕ
left a states = count_by (λ x. x == a) states

first_or_later : {X : Type 0} (y : X) (xs : List X) (x : X) (k : ℕ) → k < length (y ∷ xs) → get_or (y ∷ xs) k x ≡ x → (y ≡ x) ⊎ Contains xs x
first_or_later y xs x zero within is = inl is
first_or_later y xs x (suc k) within is = inr (k, omega arith, is)

pub Contains-cons_cases : {X : Type 0} (y : X) (xs : List X) (x : X) → Contains (y ∷ xs) x → (y ≡ x) ⊎ Contains xs x
Contains-cons_cases y xs x c = first_or_later y xs x c.0 c.1 c.2

pub none_contained : {X : Type 0} (x : X) → Contains [] x → ⊥
none_contained x c = omega (arith, c.1)

-- ---- walks
pub walk_end : (g : Graph) (states : List ℕ) (mark : ℕ) {a b : ℕ} → WalkOver g states mark a b → slice_get states b ≡ Some mark
walk_end g states mark (here is) = is
walk_end g states mark (step is edge walk) = walk_end g states mark walk

pub walk_start : (g : Graph) (states : List ℕ) (mark : ℕ) {a b : ℕ} → WalkOver g states mark a b → slice_get states a ≡ Some mark
walk_start g states mark (here is) = is
walk_start g states mark (step is edge walk) = is

pub walk_more : (g : Graph) (states : List ℕ) (mark : ℕ) {a b : ℕ} (c : ℕ) → WalkOver g states mark a b → HasEdge g b c → slice_get states c ≡ Some mark → WalkOver g states mark a c
walk_more g states mark c (here is) edge last = step is edge (here last)
walk_more g states mark c (step is first walk) edge last = step is first (walk_more g states mark c walk edge last)

module _ (g : Graph) (old starts : List ℕ) (a b : ℕ) where
  -- the node has the new mark, if it had the old one
  abbrev pub IsDone : List ℕ → ℕ → Type 0
  IsDone states v = slice_get old v ≡ Some a → slice_get states v ≡ Some b

  abbrev pub AreDone : List ℕ → List ℕ → Type 0
  AreDone states vs = (v : ℕ) → Contains vs v → IsDone states v

  abbrev pub IsReached : ℕ → Type 0
  IsReached v = IsReachedOver g old a starts v

  -- what is marked and what is in the queue
  pub record Holds (states queue : List ℕ) : Type 0 where
    pub kept : (v : ℕ) → (slice_get states v ≡ slice_get old v) ⊎ (Contains queue v × (slice_get states v ≡ Some b))
    pub found : (v : ℕ) → Contains queue v → IsReached v
    pub done : (v : ℕ) → Contains queue v → slice_get states v ≡ Some b
    pub count : left a states + length queue ≡ left a old

  pub begun : (queue : List ℕ) → queue ≡ [] → Holds old queue
  begun queue is = subst (Holds old) (sym is) (record { kept = λ v. inl refl; found = λ v c. absurd (none_contained v c); done = λ v c. absurd (none_contained v c); count = omega arith })

  -- the edges of each node before this place of the queue are done
  abbrev pub IsClosedBelow : List ℕ → List ℕ → ℕ → Type 0
  IsClosedBelow states queue next = (k : ℕ) → k < next → AreDone states (row g (get_or queue k 0))

  -- the whole state of the loop
  pub record Turn (states queue : List ℕ) (next : ℕ) : Type 0 where
    pub holds : Holds states queue
    pub begun_from : AreDone states starts
    pub closed : IsClosedBelow states queue next
    pub within : next ≤ length queue

module _ (g : Graph) (old starts : List ℕ) (a b : ℕ) (apart : a ≢ b) where
  old_mark : (states queue : List ℕ) (v : ℕ) → Holds g old starts a b states queue → slice_get states v ≡ Some a → slice_get old v ≡ Some a
  old_mark states queue v holds is = elim (holds.kept v) [ inl e ↦ sym e ∙ is | inr p ↦ absurd (apart (let h : Some a ≡ Some b = sym is ∙ p.1 in cc)) ]

  counted : (states : List ℕ) (v : ℕ) → slice_get states v ≡ Some a → left a (set states v b) + 1 ≡ left a states
  counted states v is =
      let within : v < length states = slice_get_within states v a is in
      let at : get_or states v 0 ≡ a = get_or_from_slice_get states v a 0 is in
      let one : cond {A = ℕ} (get_or states v 0 == a) 1 0 ≡ 1 = ap (λ t. cond {A = ℕ} t 1 0) (eq-eqb (get_or states v 0) a at) in
      let none : cond {A = ℕ} (b == a) 1 0 ≡ 0 = ap (λ t. cond {A = ℕ} t 1 0) (other_mark a b apart) in
      let both : left a (set states v b) + cond {A = ℕ} (get_or states v 0 == a) 1 0 ≡ left a states + cond {A = ℕ} (b == a) 1 0 = sum_by-set (λ x. cond {A = ℕ} (x == a) 1 0) states v b 0 within in
      omega arith

  new_visit : (states queue : List ℕ) (v : ℕ) → Holds g old starts a b states queue → (slice_get old v ≡ Some a → IsReached g old starts a b v) → slice_get states v ≡ Some a
      → Holds g old starts a b (set states v b) (queue ++ v ∷ [])
  new_visit states queue v holds reach is = record {
    kept = λ w. elim (same_or_not w v) [
      | inl e ↦ inr (subst (Contains (queue ++ v ∷ [])) (sym e) (Contains-push queue v), subst (λ u. slice_get (set states v b) u ≡ Some b) (sym e) (get-set_same states v a b is))
      | inr other ↦ elim (holds.kept w) [
        | inl e ↦ inl (get-set_other states v w b other ∙ e)
        | inr p ↦ inr (Contains-append_left queue (v ∷ []) w p.0, get-set_other states v w b other ∙ p.1)
      ]
    ];
    found = λ w c. elim (Contains-push_cases queue v w c) [
      | inl before ↦ holds.found w before
      | inr e ↦ subst (IsReached g old starts a b) e (reach (old_mark states queue v holds is))
    ];
    done = λ w c. elim (same_or_not w v) [
      | inl e ↦ subst (λ u. slice_get (set states v b) u ≡ Some b) (sym e) (get-set_same states v a b is)
      | inr other ↦ get-set_other states v w b other ∙ elim (Contains-push_cases queue v w c) [ inl before ↦ holds.done w before | inr e ↦ absurd (other (sym e)) ]
    ];
    count = omega (arith, counted states v is, length-append queue (v ∷ []), holds.count);
  }

  pub visit : (states queue : List ℕ) (v : ℕ) → Holds g old starts a b states queue → (slice_get old v ≡ Some a → IsReached g old starts a b v)
      → Holds g old starts a b (marked a b states v) (queued a states queue v)
  visit states queue v holds reach = by_mark (slice_get states v) refl
    where
      by_test : (x : ℕ) → slice_get states v ≡ Some x → (t : Bool) → (x == a) ≡ t → Holds g old starts a b (cond t (set states v b) states) (cond t (queue ++ v ∷ []) queue)
      by_test x is false test = holds
      by_test x is true test = new_visit states queue v holds reach (is ∙ ap Some (eqb-true x a test))

      by_mark : (o : Option ℕ) → slice_get states v ≡ o → Holds g old starts a b (cond (has a o) (set states v b) states) (cond (has a o) (queue ++ v ∷ []) queue)
      by_mark None is = holds
      by_mark (Some x) is = by_test x is (x == a) refl

  -- no node with the new mark gets another
  stays : (states : List ℕ) (v w : ℕ) → slice_get states w ≡ Some b → slice_get (marked a b states v) w ≡ Some b
  stays states v w is = by_mark (slice_get states v) refl
    where
      by_place : (x : ℕ) → slice_get states v ≡ Some x → slice_get (set states v b) w ≡ Some b
      by_place x at = elim (same_or_not w v) [ inl e ↦ subst (λ u. slice_get (set states v b) u ≡ Some b) (sym e) (get-set_same states v x b at) | inr other ↦ get-set_other states v w b other ∙ is ]

      by_test : (x : ℕ) → slice_get states v ≡ Some x → (t : Bool) → slice_get (cond t (set states v b) states) w ≡ Some b
      by_test x at false = is
      by_test x at true = by_place x at

      by_mark : (o : Option ℕ) → slice_get states v ≡ o → slice_get (cond (has a o) (set states v b) states) w ≡ Some b
      by_mark None at = is
      by_mark (Some x) at = by_test x at (x == a)

  visited : (states queue : List ℕ) (v : ℕ) → Holds g old starts a b states queue → IsDone g old starts a b (marked a b states v) v
  visited states queue v holds was = elim (holds.kept v) [ inl e ↦ at_once (e ∙ was) | inr p ↦ stays states v v p.1 ]
    where
      at_once : slice_get states v ≡ Some a → slice_get (marked a b states v) v ≡ Some b
      at_once is =
          let now : marked a b states v ≡ set states v b = ap (λ o. cond (has a o) (set states v b) states) is ∙ ap (λ t. cond t (set states v b) states) (eq-eqb a a refl) in
          ap (λ s. slice_get s v) now ∙ get-set_same states v a b is

  pub visit_all : (vs states queue : List ℕ) → Holds g old starts a b states queue
      → ((v : ℕ) → Contains vs v → slice_get old v ≡ Some a → IsReached g old starts a b v)
      → Holds g old starts a b (all_marked a b states vs) (all_queued a b states queue vs)
  visit_all [] states queue holds reach = holds
  visit_all (v ∷ vs) states queue holds reach =
      visit_all vs (marked a b states v) (queued a states queue v) (visit states queue v holds (reach v (0, omega arith, refl)))
      (λ w c. reach w (Contains-append_right (v ∷ []) vs w c))

  pub all_stay : (vs states : List ℕ) (w : ℕ) → slice_get states w ≡ Some b → slice_get (all_marked a b states vs) w ≡ Some b
  all_stay [] states w is = is
  all_stay (v ∷ vs) states w is = all_stay vs (marked a b states v) w (stays states v w is)

  pub all_visited : (vs states queue : List ℕ) → Holds g old starts a b states queue
      → ((v : ℕ) → Contains vs v → slice_get old v ≡ Some a → IsReached g old starts a b v)
      → AreDone g old starts a b (all_marked a b states vs) vs
  all_visited [] states queue holds reach w c = absurd (none_contained w c)
  all_visited (v ∷ vs) states queue holds reach w c = elim (Contains-cons_cases v vs w c) [
    | inl e ↦ subst (IsDone g old starts a b (all_marked a b (marked a b states v) vs)) e (λ was. all_stay vs (marked a b states v) v (visited states queue v holds was))
    | inr later ↦ all_visited vs (marked a b states v) (queued a states queue v) (visit states queue v holds (reach v (0, omega arith, refl))) (λ u d. reach u (Contains-append_right (v ∷ []) vs u d)) w later
  ]

  pub queue_grows : (vs states queue : List ℕ) → (more : List ℕ) × (all_queued a b states queue vs ≡ queue ++ more)
  queue_grows [] states queue = ([], sym (append-nil queue))
  queue_grows (v ∷ vs) states queue = by_test (has a (slice_get states v)) (queue_grows vs (marked a b states v))
    where
      by_test : (t : Bool) → ((q : List ℕ) → (more : List ℕ) × (all_queued a b (marked a b states v) q vs ≡ q ++ more))
          → (more : List ℕ) × (all_queued a b (marked a b states v) (cond t (queue ++ v ∷ []) queue) vs ≡ queue ++ more)
      by_test true grows = let rest = grows (queue ++ v ∷ []) in (v ∷ rest.0, rest.1 ∙ append_assoc queue (v ∷ []) rest.0)
      by_test false grows = grows queue

  -- the start: the nodes to begin from are visited
  pub start : Holds g old starts a b (all_marked a b old starts) (all_queued a b old [] starts)
  start = visit_all starts old [] (begun g old starts a b [] refl) (λ v c was. (v, c, here was))

  pub started : AreDone g old starts a b (all_marked a b old starts) starts
  started = all_visited starts old [] (begun g old starts a b [] refl) (λ v c was. (v, c, here was))

  reach_on : (states queue : List ℕ) (v : ℕ) → Holds g old starts a b states queue → Contains queue v → (w : ℕ) → Contains (row g v) w → slice_get old w ≡ Some a → IsReached g old starts a b w
  reach_on states queue v holds in_queue w edge was =
      let to_v = holds.found v in_queue in
      (to_v.0, to_v.1, walk_more g old a w to_v.2 edge was)

  pub next_holds : (states queue : List ℕ) (next : ℕ) → next < length queue → Holds g old starts a b states queue
      → Holds g old starts a b (all_marked a b states (row g (get_or queue next 0))) (all_queued a b states queue (row g (get_or queue next 0)))
  next_holds states queue next within holds =
      let v = get_or queue next 0 in
      visit_all (row g v) states queue holds (reach_on states queue v holds (Contains-get_or queue next 0 within))

  pub next_closed : (states queue : List ℕ) (next : ℕ) → next < length queue → Holds g old starts a b states queue → IsClosedBelow g old starts a b states queue next
      → IsClosedBelow g old starts a b (all_marked a b states (row g (get_or queue next 0))) (all_queued a b states queue (row g (get_or queue next 0))) (next + 1)
  next_closed states queue next within holds closed k below =
      let v = get_or queue next 0 in
      let more = queue_grows (row g v) states queue in
      let same : get_or (all_queued a b states queue (row g v)) k 0 ≡ get_or queue k 0 = ap (λ q. get_or q k 0) more.1 ∙ get_or_append_left queue more.0 0 k (omega arith) in
      subst (λ u. AreDone g old starts a b (all_marked a b states (row g v)) (row g u)) (sym same) (elim (same_or_not k next) [
        | inl e ↦ subst (λ i. AreDone g old starts a b (all_marked a b states (row g v)) (row g (get_or queue i 0))) (sym e) (all_visited (row g v) states queue holds (reach_on states queue v holds (Contains-get_or queue next 0 within)))
        | inr other ↦ (λ w c was. all_stay (row g v) states w (closed k (omega arith) w c was))
      ])

  pub starts_stay : (vs states : List ℕ) → AreDone g old starts a b states starts → AreDone g old starts a b (all_marked a b states vs) starts
  starts_stay vs states done v c was = all_stay vs states v (done v c was)

  pub first_turn : (states queue : List ℕ) → states ≡ all_marked a b old starts → queue ≡ all_queued a b old [] starts → Turn g old starts a b states queue 0
  first_turn states queue s q =
      subst (λ (p : List ℕ × List ℕ). Turn g old starts a b p.0 p.1 0) (λ i. (sym s i, sym q i))
      (record { holds = start; begun_from = started; closed = λ k below. absurd (omega (arith, below)); within = omega arith })

  pub next_turn : (states queue nodes new_states new_queue : List ℕ) (next : ℕ) → Turn g old starts a b states queue next → next < length queue → nodes ≡ row g (get_or queue next 0)
      → new_states ≡ all_marked a b states nodes → new_queue ≡ all_queued a b states queue nodes → Turn g old starts a b new_states new_queue (next + 1)
  next_turn states queue nodes new_states new_queue next turn within are s q =
      let vs = row g (get_or queue next 0) in
      let more = queue_grows vs states queue in
      subst (λ (p : List ℕ × List ℕ). Turn g old starts a b p.0 p.1 (next + 1)) (λ i. (sym (s ∙ ap (all_marked a b states) are) i, sym (q ∙ ap (all_queued a b states queue) are) i))
      (record {
        holds = next_holds states queue next within turn.holds;
        begun_from = starts_stay vs states turn.begun_from;
        closed = next_closed states queue next within turn.holds turn.closed;
        within = omega (arith, ap length more.1, length-append queue more.0);
      })

  -- at the end
  pub flooded : (states queue : List ℕ) (next : ℕ) → length queue ≤ next → Turn g old starts a b states queue next → IsFlooded g old states starts a b queue
  flooded states queue next all turn = record {
    reached = λ v r. along r.2 (turn.begun_from r.0 r.1 (walk_start g old a r.2));
    only = λ v. elim (turn.holds.kept v) [ inl e ↦ inl e | inr p ↦ inr (turn.holds.found v p.0, p.0, p.1) ];
  }
    where
      in_queue : (v : ℕ) → slice_get old v ≡ Some a → slice_get states v ≡ Some b → Contains queue v
      in_queue v was is = elim (turn.holds.kept v) [ inl e ↦ absurd (apart (let h : Some a ≡ Some b = sym was ∙ sym e ∙ is in cc)) | inr p ↦ p.0 ]

      edges_done : (v : ℕ) → Contains queue v → AreDone g old starts a b states (row g v)
      edges_done v c = subst (λ u. AreDone g old starts a b states (row g u)) (sym (get_or_default_zero queue c.0 v c.1) ∙ c.2) (turn.closed c.0 (omega (arith, c.1)))

      along : {v w : ℕ} → WalkOver g old a v w → slice_get states v ≡ Some b → slice_get states w ≡ Some b
      along (here was) is = is
      along {v} {w} (step {b = u} was edge walk) is = along walk (edges_done v (in_queue v was is) u edge (walk_start g old a walk))
