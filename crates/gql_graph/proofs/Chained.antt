-- Chains of names, and marks of them.
use Rattle.std.proofs.Common.{◌≡◌, ◌⊎◌, inl, inr, ℕ, zero, suc, ◌+◌, ◌<◌, ◌≤◌, nat_lt, Bool, true, false, cond, ◌&&◌, ◌||◌, not, if◌then◌else◌, Option, Some, None, List, [], ◌∷◌, ◌++◌, length, replicate, refl, sym, ap, ◌∙◌, arith}
use Rattle.std.specs.List.{slice_get, list_any, flat_map}
use Rattle.std.specs.Option.{unwrap_or}
use Rattle.std.proofs.lemmas.Bool.Decides.{nat_tests}
use Rattle.std.proofs.lemmas.Option.{slice_get_within, slice_get_past}
use Rattle.gql_graph.specs.Chains.{AreJudged, mark_of, is_marked, next_names, has_chain}
use Rattle.gql_graph.specs.bridge.Chains.{AreMarkedNodes, AreReaching, any_marked, is_marked_next, any_next, next_mark, is_long}
use Rattle.gql_graph.specs.Cycles.{IsOnCycle, ReachesCycle, AreMarked}
use Rattle.gql_graph.specs.bridge.Cycles.{IsReverse, Told}
use Rattle.gql_graph.specs.Flooding.{has}
use Rattle.gql_graph.specs.Graph.{Graph, row}
use Rattle.gql_graph.specs.bridge.Graph.{IsFlooded}
use Rattle.gql_graph.proofs.Cyclic.{zeros, has_is, is_has}
use Rattle.gql_graph.proofs.Walks.{forget, lift, inside, from_node, forward, backward}

-- ---- tests of lists
any_append : {X : Type 0} (test : X → Bool) (xs ys : List X) → list_any test (xs ++ ys) ≡ (list_any test xs || list_any test ys)
any_append test [] ys = refl
any_append test (x ∷ xs) ys = by_test (test x) (any_append test xs ys)
  where
    by_test : (b : Bool) → list_any test (xs ++ ys) ≡ (list_any test xs || list_any test ys) → (b || list_any test (xs ++ ys)) ≡ ((b || list_any test xs) || list_any test ys)
    by_test true later = refl
    by_test false later = later

pub any_twice : {X Y : Type 0} (test : Y → Bool) (f : X → List Y) (xs : List X) → list_any test (flat_map f xs) ≡ list_any (λ x. list_any test (f x)) xs
any_twice test f [] = refl
any_twice test f (x ∷ xs) = any_append test (f x) (flat_map f xs) ∙ ap (λ b. list_any test (f x) || b) (any_twice test f xs)

any_same : {X : Type 0} (f g : X → Bool) → ((x : X) → f x ≡ g x) → (xs : List X) → list_any f xs ≡ list_any g xs
any_same f g same [] = refl
any_same f g same (x ∷ xs) = λ i. same x i || any_same f g same xs i

pub or_false : (b : Bool) → (b || false) ≡ b
or_false true = refl
or_false false = refl

-- ---- marks by a test
told_mark : (test : ℕ → Bool) (marks : List Bool) (count : ℕ) → Told test marks count → ((v : ℕ) → count ≤ v → test v ≡ false) → (v : ℕ) → is_marked marks v ≡ test v
told_mark test marks count told past v = by_place (place v)
  where
    place : (v : ℕ) → (v < count) ⊎ (count ≤ v)
    place v = by_test (nat_lt v count) refl
      where
        by_test : (b : Bool) → nat_lt v count ≡ b → (v < count) ⊎ (count ≤ v)
        by_test true is = inl (grind (arith, nat_tests))
        by_test false is = inr (grind (arith, nat_tests))

    by_place : (v < count) ⊎ (count ≤ v) → is_marked marks v ≡ test v
    by_place (inl before) = ap mark_of (told.each v before)
    by_place (inr after) = ap mark_of (slice_get_past marks v (let h = told.as_many in omega arith)) ∙ sym (past v after)

row_past : (g : Graph) (v : ℕ) → length g ≤ v → row g v ≡ []
row_past g v past = ap (λ o. unwrap_or o []) (slice_get_past g v past)

-- ---- one round more
pub next_round : (g : Graph) (named : ℕ) (marks through made : List Bool) → Told (λ v. any_marked marks (row g v)) through (length g)
    → Told (λ v. any_next named marks through (row g v)) made (length g) → Told (next_mark g named marks) made (length g)
next_round g named marks through made below told = record {
  as_many = told.as_many;
  each = λ v within. told.each v within ∙ ap Some (any_same (is_marked_next named marks through) (λ w. any_marked marks (if nat_lt w named then w ∷ [] else row g w)) each (row g v)
      ∙ sym (any_twice (is_marked marks) (λ w. if nat_lt w named then w ∷ [] else row g w) (row g v)));
}
  where
    through_is : (w : ℕ) → is_marked through w ≡ any_marked marks (row g w)
    through_is = told_mark (λ v. any_marked marks (row g v)) through (length g) below (λ v past. ap (any_marked marks) (row_past g v past))

    each : (w : ℕ) → is_marked_next named marks through w ≡ any_marked marks (if nat_lt w named then w ∷ [] else row g w)
    each w = by_test (nat_lt w named)
      where
        by_test : (b : Bool) → cond b (is_marked marks w) (is_marked through w) ≡ any_marked marks (cond b (w ∷ []) (row g w))
        by_test true = sym (or_false (is_marked marks w))
        by_test false = through_is w

-- ---- where nothing is marked
none_marked : (marks : List Bool) → list_any (λ (mark : Bool). mark) marks ≡ false → (v : ℕ) → is_marked marks v ≡ false
none_marked [] none v = ap mark_of (slice_get_past [] v (omega arith))
none_marked (true ∷ marks) none v = absurd cc
none_marked (false ∷ marks) none zero = refl
none_marked (false ∷ marks) none (suc v) = none_marked marks none v

unmarked : (marks : List Bool) (v : ℕ) → v < length marks → list_any (λ (mark : Bool). mark) marks ≡ false → slice_get marks v ≡ Some false
unmarked [] v within none = absurd (omega (arith, within))
unmarked (true ∷ marks) v within none = absurd cc
unmarked (false ∷ marks) zero within none = refl
unmarked (false ∷ marks) (suc v) within none = unmarked marks v (omega (arith, within)) none

nowhere : (nodes : List ℕ) → list_any (λ (node : ℕ). false) nodes ≡ false
nowhere [] = refl
nowhere (node ∷ nodes) = nowhere nodes

pub same_marks : (g : Graph) (named : ℕ) (marks : List Bool) → length marks ≡ length g → list_any (λ (mark : Bool). mark) marks ≡ false → Told (next_mark g named marks) marks (length g)
same_marks g named marks as_many none = record {
  as_many = as_many;
  each = λ v within. unmarked marks v (omega (arith, as_many, within)) none ∙ ap Some (sym (nothing (next_names g named v)));
}
  where
    nothing : (nodes : List ℕ) → any_marked marks nodes ≡ false
    nothing nodes = any_same (is_marked marks) (λ (node : ℕ). false) (none_marked marks none) nodes ∙ nowhere nodes

chain_next : (g : Graph) (named more v : ℕ) → has_chain g named (more + 1) v ≡ list_any (has_chain g named more) (next_names g named v)
unfolding has_chain
chain_next g named more v = ap (λ n. has_chain g named n v) (let h : more + 1 ≡ suc more = omega arith in h)

pub more_names : (g : Graph) (named more : ℕ) (marks made : List Bool) → Told (next_mark g named marks) made (length g) → ((v : ℕ) → is_marked marks v ≡ has_chain g named more v)
    → (v : ℕ) → is_marked made v ≡ has_chain g named (more + 1) v
more_names g named more marks made told are v =
    told_mark (next_mark g named marks) made (length g) told (λ w past. ap (λ r. any_marked marks (flat_map (λ u. if nat_lt u named then u ∷ [] else row g u) r)) (row_past g w past)) v
    ∙ any_same (is_marked marks) (has_chain g named more) are (next_names g named v) ∙ sym (chain_next g named more v)

all_true : (count v : ℕ) → is_marked (replicate count true) v ≡ nat_lt v count
all_true zero v = grind (arith, nat_tests)
all_true (suc count) zero = grind (arith, nat_tests)
all_true (suc count) (suc v) = all_true count v ∙ same
  where
    same : nat_lt v count ≡ nat_lt (suc v) (suc count)
    same = grind (arith, nat_tests)

pub no_names : (g : Graph) (named : ℕ) (marks : List Bool) → marks ≡ replicate (length g) true → (v : ℕ) → is_marked marks v ≡ has_chain g named 0 v
unfolding has_chain
no_names g named marks is v = ap (λ l. is_marked l v) is ∙ all_true (length g) v

-- ---- the nodes that are marked

-- ---- what reaches a marked node
pub reaching : (r : Graph) (marks : List Bool) (starts old states told : List ℕ) → length marks ≡ length r → AreMarkedNodes marks starts (length marks) → old ≡ replicate (length marks) 0
    → IsFlooded r old states starts 0 1 told → AreReaching r marks states
reaching r marks starts old states told as_many are begun flooded = record {
  reached = λ u v marked within walk. flooded.reached v (u, are.listed u (marked_within u marked) marked, lift r old 0 (λ x to from. zero_at x (omega (arith, inside r from (omega arith)))) walk);
  only = λ v is. elim (flooded.only v) [
    | inl e ↦ absurd (omega (arith, zeros (length marks) v 1 (ap (λ (l : List ℕ). slice_get l v) (sym begun) ∙ sym e ∙ is)))
    | inr p ↦ (p.0.0, are.only p.0.0 p.0.1, forget r old 0 p.0.2)
  ];
}
  where
    marked_within : (u : ℕ) → is_marked marks u ≡ true → u < length marks
    marked_within u marked = by_mark (slice_get marks u) refl marked
      where
        by_mark : (o : Option Bool) → slice_get marks u ≡ o → mark_of o ≡ true → u < length marks
        by_mark None is marked = absurd cc
        by_mark (Some b) is marked = slice_get_within marks u b is

    zero_in : (count x : ℕ) → x < count → slice_get {X = ℕ} (replicate count 0) x ≡ Some 0
    zero_in zero x within = absurd (omega (arith, within))
    zero_in (suc count) zero within = refl
    zero_in (suc count) (suc x) within = zero_in count x (omega (arith, within))

    zero_at : (x : ℕ) → x < length marks → slice_get old x ≡ Some 0
    zero_at x within = ap (λ l. slice_get l x) begun ∙ zero_in (length marks) x within

-- ---- the whole
pub both_true : (a b : Bool) → (a && b) ≡ true → (a ≡ true) × (b ≡ true)
both_true true true h = (refl, refl)
both_true true false h = absurd cc
both_true false b h = absurd cc

pub judged : (g r : Graph) (named : ℕ) (recursive chained long : List Bool) (cyclic : List ℕ) → IsReverse g r → AreMarked (IsOnCycle g) (length g) recursive → AreReaching r recursive cyclic
    → ((v : ℕ) → is_marked chained v ≡ has_chain g named 32 v) → length chained ≡ length g → Told (is_long chained cyclic) long (length chained) → AreJudged g named recursive long
judged g r named recursive chained long cyclic rev on_cycles reach chains as_many told = record {
  on_cycles = on_cycles;
  on_chains = record {
    as_many = told.as_many ∙ as_many;
    marked = λ v within long_here. told.each v (omega arith) ∙ ap Some (λ i. (chains v ∙ long_here.0) i && not (unreached v long_here.1 i));
    only = λ v is.
        let within : v < length chained = omega (arith, slice_get_within long v true is, told.as_many) in
        let h : is_long chained cyclic v ≡ true = (let e : Some (is_long chained cyclic v) ≡ Some true = sym (told.each v within) ∙ is in cc) in
        let parts = both_true (is_marked chained v) (not (has 1 (slice_get cyclic v))) h in
        (sym (chains v) ∙ parts.0, no_cycle v (omega arith) parts.1);
  };
}
  where
    -- what reaches a cycle has the state 1
    to_cycle : (v : ℕ) → v < length g → ReachesCycle g v → slice_get cyclic v ≡ Some 1
    to_cycle v within c =
        let u_within : c.0 < length g = from_node g c.0 c.2.0 c.2.1 in
        let marked : is_marked recursive c.0 ≡ true = ap mark_of (on_cycles.marked c.0 u_within c.2) in
        reach.reached c.0 v marked (let h = on_cycles.as_many in omega arith) (backward g r rev u_within c.1)

    no_cycle : (v : ℕ) → v < length g → not (has 1 (slice_get cyclic v)) ≡ true → ReachesCycle g v → ⊥
    no_cycle v within unmarked c = let h : not true ≡ true = ap not (sym (is_has 1 (slice_get cyclic v) (to_cycle v within c))) ∙ unmarked in cc

    marked_so : (o : Option Bool) → mark_of o ≡ true → o ≡ Some true
    marked_so None h = absurd cc
    marked_so (Some true) h = refl
    marked_so (Some false) h = absurd cc

    unreached : (v : ℕ) → (ReachesCycle g v → ⊥) → has 1 (slice_get cyclic v) ≡ false
    unreached v none = by_test (has 1 (slice_get cyclic v)) refl
      where
        by_test : (b : Bool) → has 1 (slice_get cyclic v) ≡ b → b ≡ false
        by_test false is = refl
        by_test true is =
            let found = reach.only v (has_is 1 (slice_get cyclic v) is) in
            absurd (none (found.0, forward g r rev found.2, on_cycles.only found.0 (marked_so (slice_get recursive found.0) found.1)))
