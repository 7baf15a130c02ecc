-- Pairs that are inserted once.
use Rattle.std.proofs.Common.{◌≡◌, ◌≢◌, ◌⊎◌, inl, inr, ℕ, suc, ◌<◌, Bool, true, false, cond, ◌&&◌, ◌||◌, ◌==◌, List, [], ◌∷◌, ◌++◌, refl, sym, ap, ◌∙◌, subst, arith, append_assoc}
use Rattle.std.specs.Bool.{beq}
use Rattle.std.specs.List.{Contains, list_any}
use Rattle.std.proofs.lemmas.List.{append-nil}
use Rattle.std.proofs.lemmas.List.Elements.{Contains-append_left, Contains-append_right, Contains-push, Contains-push_cases}
use Rattle.std.proofs.lemmas.Bool.{eqb-true, lt-ltb}
use Rattle.std.proofs.lemmas.Bool.Decides.{leb_tells}
use Rattle.gql_graph.proofs.Flooded.{Contains-cons_cases, none_contained}
use Rattle.gql_graph.specs.bridge.Explored.{pair_of}
use Rattle.gql_graph.specs.bridge.Steps.{is_pair, inserted, all_inserted}
use Rattle.gql_graph.specs.declared.pair.Pair.{Pair}

beq-true : (x y : Bool) → beq x y ≡ true → x ≡ y
beq-true true true is = refl
beq-true true false is = absurd cc
beq-true false true is = absurd cc
beq-true false false is = refl

abbrev pub made : ℕ × ℕ × Bool → Pair
made p = record { first = p.0; second = p.1; in_full = p.2 }

pub is_pair-true : (p q : Pair) → is_pair p q ≡ true → p ≡ q
is_pair-true p q is = by_tests (p.first == q.first) refl (p.second == q.second) refl is
  where
    by_tests : (t : Bool) → (p.first == q.first) ≡ t → (u : Bool) → (p.second == q.second) ≡ u → (t && (u && beq p.in_full q.in_full)) ≡ true → p ≡ q
    by_tests false a u b is = absurd cc
    by_tests true a false b is = absurd cc
    by_tests true a true b is =
        let first = eqb-true p.first q.first a in
        let second = eqb-true p.second q.second b in
        let full = beq-true p.in_full q.in_full is in
        λ i. made (first i, second i, full i)

pub found_by : (p : Pair) (seen : List Pair) → list_any (is_pair p) seen ≡ true → Contains seen p
found_by p [] is = absurd cc
found_by p (q ∷ qs) is = by_test (λ later. found_by p qs later) (is_pair p q) refl is
  where
    by_test : (list_any (is_pair p) qs ≡ true → Contains qs p) → (t : Bool) → is_pair p q ≡ t → (t || list_any (is_pair p) qs) ≡ true → Contains (q ∷ qs) p
    by_test further true test is = subst (Contains (q ∷ qs)) (sym (is_pair-true p q test)) (0, omega arith, refl)
    by_test further false test is = Contains-append_right (q ∷ []) qs p (further is)

pub inserted_grows : (seen : List Pair) (p : Pair) → (more : List Pair) × (inserted seen p ≡ seen ++ more)
inserted_grows seen p = by_test (list_any (is_pair p) seen)
  where
    by_test : (t : Bool) → (more : List Pair) × (cond t seen (seen ++ p ∷ []) ≡ seen ++ more)
    by_test true = ([], sym (append-nil seen))
    by_test false = (p ∷ [], refl)

pub inserted_has : (seen : List Pair) (p : Pair) → Contains (inserted seen p) p
inserted_has seen p = by_test (list_any (is_pair p) seen) refl
  where
    by_test : (t : Bool) → list_any (is_pair p) seen ≡ t → Contains (cond t seen (seen ++ p ∷ [])) p
    by_test true any = found_by p seen any
    by_test false any = Contains-push seen p

pub inserted_only : (seen : List Pair) (p q : Pair) → Contains (inserted seen p) q → Contains seen q ⊎ (q ≡ p)
inserted_only seen p q c = by_test (list_any (is_pair p) seen) c
  where
    by_test : (t : Bool) → Contains (cond t seen (seen ++ p ∷ [])) q → Contains seen q ⊎ (q ≡ p)
    by_test true c = inl c
    by_test false c = elim (Contains-push_cases seen p q c) [ inl before ↦ inl before | inr e ↦ inr (sym e) ]

module _ (in_full : Bool) (a : ℕ) where
  pub all_grows : (bs : List ℕ) (seen : List Pair) → (more : List Pair) × (all_inserted in_full a bs seen ≡ seen ++ more)
  all_grows [] seen = ([], sym (append-nil seen))
  all_grows (b ∷ bs) seen =
      let first = inserted_grows seen (pair_of in_full b a) in
      let rest = all_grows bs (inserted seen (pair_of in_full b a)) in
      (first.0 ++ rest.0, rest.1 ∙ ap (λ l. l ++ rest.0) first.1 ∙ append_assoc seen first.0 rest.0)

  pub all_keep : (bs : List ℕ) (seen : List Pair) (q : Pair) → Contains seen q → Contains (all_inserted in_full a bs seen) q
  all_keep bs seen q c = let grown = all_grows bs seen in subst (λ l. Contains l q) (sym grown.1) (Contains-append_left seen grown.0 q c)

  pub all_have : (bs : List ℕ) (seen : List Pair) (b : ℕ) → Contains bs b → Contains (all_inserted in_full a bs seen) (pair_of in_full b a)
  all_have [] seen b c = absurd (none_contained b c)
  all_have (x ∷ bs) seen b c = elim (Contains-cons_cases x bs b c) [
    | inl e ↦ subst (λ y. Contains (all_inserted in_full a bs (inserted seen (pair_of in_full x a))) (pair_of in_full y a)) e
        (all_keep bs (inserted seen (pair_of in_full x a)) (pair_of in_full x a) (inserted_has seen (pair_of in_full x a)))
    | inr later ↦ all_have bs (inserted seen (pair_of in_full x a)) b later
  ]

  pub all_only : (bs : List ℕ) (seen : List Pair) (q : Pair) → Contains (all_inserted in_full a bs seen) q
      → Contains seen q ⊎ ((b : ℕ) × Contains bs b × (q ≡ pair_of in_full b a))
  all_only [] seen q c = inl c
  all_only (x ∷ bs) seen q c = elim (all_only bs (inserted seen (pair_of in_full x a)) q c) [
    | inl before ↦ elim (inserted_only seen (pair_of in_full x a) q before) [ inl old ↦ inl old | inr e ↦ inr (x, (0, omega arith, refl), e) ]
    | inr p ↦ inr (p.0, Contains-append_right (x ∷ []) bs p.0 p.1, p.2)
  ]

-- a pair of different fields is ordered, and either of them may be told first
pub pair_of-low : (in_full : Bool) (a b : ℕ) → a < b → pair_of in_full a b ≡ record { first = a; second = b; in_full = in_full }
pair_of-low in_full a b low = ap (λ t. cond t (made (a, b, in_full)) (made (b, a, in_full))) (lt-ltb a b low)

pub pair_of-high : (in_full : Bool) (a b : ℕ) → b < a → pair_of in_full a b ≡ record { first = b; second = a; in_full = in_full }
pair_of-high in_full a b high = elim (leb_tells (suc a) b) [
  | inl p ↦ absurd (omega (arith, p.1, high))
  | inr p ↦ ap (λ t. cond t (made (a, b, in_full)) (made (b, a, in_full))) p.0
]

pub either_order : (a b : ℕ) → a ≢ b → (a < b) ⊎ (b < a)
either_order a b apart = elim (leb_tells (suc a) b) [ inl p ↦ inl p.1 | inr p ↦ inr (omega (arith, p.1, apart)) ]

pub pair_of-either : (in_full : Bool) (a b : ℕ) → a ≢ b → pair_of in_full a b ≡ pair_of in_full b a
pair_of-either in_full a b apart = elim (either_order a b apart) [
  | inl low ↦ pair_of-low in_full a b low ∙ sym (pair_of-high in_full b a low)
  | inr high ↦ pair_of-high in_full a b high ∙ sym (pair_of-low in_full b a high)
]
