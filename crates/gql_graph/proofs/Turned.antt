-- What holds while a graph is turned round.
use Rattle.std.proofs.Common.{◌≡◌, ◌⊎◌, inl, inr, ℕ, zero, suc, ◌+◌, ◌<◌, ◌≤◌, Option, Some, None, List, [], ◌∷◌, ◌++◌, length, get_or, set, refl, sym, ap, ◌∙◌, subst, arith, length-set}
use Rattle.std.specs.List.{Contains, slice_get}
use Rattle.std.specs.Option.{option_map_or, unwrap_or}
use Rattle.std.proofs.lemmas.List.Elements.{Contains-append_left, Contains-push, Contains-push_cases}
use Rattle.std.proofs.lemmas.Option.{slice_get-get_or}
use Rattle.gql_graph.specs.bridge.Cycles.{IsReverse}
use Rattle.gql_graph.specs.Graph.{Graph, row, HasEdge}
use Rattle.gql_graph.specs.bridge.Reversing.{no_edges, added, all_added}
use Rattle.gql_graph.proofs.Walks.{from_node}
use Rattle.gql_graph.proofs.Flooded.{get-set_same, get-set_other, same_or_not, Contains-cons_cases, none_contained}

-- ---- one edge more
row_is : (g : Graph) (b : ℕ) (r : List ℕ) → slice_get g b ≡ Some r → row g b ≡ r
row_is g b r is = ap (λ o. unwrap_or o []) is

added_length : (m : Graph) (a b : ℕ) → length (added m a b) ≡ length m
added_length m a b = by_row (slice_get m b)
  where
    by_row : (o : Option (List ℕ)) → length (option_map_or (λ r. set m b (r ++ a ∷ [])) o m) ≡ length m
    by_row None = refl
    by_row (Some r) = length-set m b (r ++ a ∷ [])

added_keeps : (m : Graph) (a b c d : ℕ) → HasEdge m c d → HasEdge (added m a b) c d
added_keeps m a b c d edge = by_row (slice_get m b) refl
  where
    by_row : (o : Option (List ℕ)) → slice_get m b ≡ o → HasEdge (option_map_or (λ r. set m b (r ++ a ∷ [])) o m) c d
    by_row None is = edge
    by_row (Some r) is = elim (same_or_not c b) [
      | inl e ↦ (let here : Contains r d = subst (λ l. Contains l d) (ap (row m) e ∙ row_is m b r is) edge in
          subst (λ l. Contains l d) (sym (ap (row (set m b (r ++ a ∷ []))) e ∙ row_is (set m b (r ++ a ∷ [])) b (r ++ a ∷ []) (get-set_same m b r (r ++ a ∷ []) is)))
          (Contains-append_left r (a ∷ []) d here))
      | inr other ↦ subst (λ o. Contains (unwrap_or o []) d) (sym (get-set_other m b c (r ++ a ∷ []) other)) edge
    ]

added_here : (m : Graph) (a b : ℕ) → b < length m → HasEdge (added m a b) b a
added_here m a b within = by_row (slice_get m b) refl
  where
    by_row : (o : Option (List ℕ)) → slice_get m b ≡ o → HasEdge (option_map_or (λ r. set m b (r ++ a ∷ [])) o m) b a
    by_row None is = absurd (let h : None ≡ Some (get_or m b []) = sym is ∙ slice_get-get_or m b [] within in cc)
    by_row (Some r) is = subst (λ l. Contains l a) (sym (row_is (set m b (r ++ a ∷ [])) b (r ++ a ∷ []) (get-set_same m b r (r ++ a ∷ []) is))) (Contains-push r a)

added_only : (m : Graph) (a b c d : ℕ) → HasEdge (added m a b) c d → HasEdge m c d ⊎ ((c ≡ b) × (a ≡ d))
added_only m a b c d = by_row (slice_get m b) refl
  where
    by_row : (o : Option (List ℕ)) → slice_get m b ≡ o → HasEdge (option_map_or (λ r. set m b (r ++ a ∷ [])) o m) c d → HasEdge m c d ⊎ ((c ≡ b) × (a ≡ d))
    by_row None is edge = inl edge
    by_row (Some r) is edge = elim (same_or_not c b) [
      | inl e ↦ (let there : Contains (r ++ a ∷ []) d = subst (λ l. Contains l d) (ap (row (set m b (r ++ a ∷ []))) e ∙ row_is (set m b (r ++ a ∷ [])) b (r ++ a ∷ []) (get-set_same m b r (r ++ a ∷ []) is)) edge in
          elim (Contains-push_cases r a d there) [
            | inl before ↦ inl (subst (λ l. Contains l d) (sym (ap (row m) e ∙ row_is m b r is)) before)
            | inr new ↦ inr (e, new)
          ])
      | inr other ↦ inl (subst (λ o. Contains (unwrap_or o []) d) (get-set_other m b c (r ++ a ∷ []) other) edge)
    ]

-- ---- the edges of one node
all_length : (bs : List ℕ) (m : Graph) (a : ℕ) → length (all_added m a bs) ≡ length m
all_length [] m a = refl
all_length (b ∷ bs) m a = all_length bs (added m a b) a ∙ added_length m a b

all_keep : (bs : List ℕ) (m : Graph) (a c d : ℕ) → HasEdge m c d → HasEdge (all_added m a bs) c d
all_keep [] m a c d edge = edge
all_keep (b ∷ bs) m a c d edge = all_keep bs (added m a b) a c d (added_keeps m a b c d edge)

all_here : (bs : List ℕ) (m : Graph) (a b : ℕ) → Contains bs b → b < length m → HasEdge (all_added m a bs) b a
all_here [] m a b c within = absurd (none_contained b c)
all_here (x ∷ bs) m a b c within = elim (Contains-cons_cases x bs b c) [
  | inl e ↦ all_keep bs (added m a x) a b a (subst (λ y. HasEdge (added m a y) b a) (sym e) (added_here m a b within))
  | inr later ↦ all_here bs (added m a x) a b later (subst (λ n. b < n) (sym (added_length m a x)) within)
]

all_only : (bs : List ℕ) (m : Graph) (a c d : ℕ) → HasEdge (all_added m a bs) c d → HasEdge m c d ⊎ (Contains bs c × (a ≡ d))
all_only [] m a c d edge = inl edge
all_only (b ∷ bs) m a c d edge = elim (all_only bs (added m a b) a c d edge) [
  | inl before ↦ elim (added_only m a b c d before) [ inl e ↦ inl e | inr p ↦ inr ((0, omega arith, sym p.0), p.1) ]
  | inr p ↦ inr ((suc p.0.0, omega (arith, p.0.1), p.0.2), p.1)
]

-- ---- the loop
pub record Turning (g m : Graph) (count : ℕ) : Type 0 where
  pub as_many : length m ≡ length g
  pub back : (a b : ℕ) → a < count → HasEdge g a b → b < length g → HasEdge m b a
  pub only : (a b : ℕ) → HasEdge m b a → HasEdge g a b

row_none : (count b : ℕ) → row (no_edges count) b ≡ []
row_none zero b = refl
row_none (suc count) zero = refl
row_none (suc count) (suc b) = row_none count b

length_none : (count : ℕ) → length (no_edges count) ≡ count
length_none zero = refl
length_none (suc count) = ap suc (length_none count)

pub none_turned : (g m : Graph) → m ≡ no_edges (length g) → Turning g m 0
none_turned g m is = record {
  as_many = ap length is ∙ length_none (length g);
  back = λ a b below edge within. absurd (omega (arith, below));
  only = λ a b edge. absurd (none_contained a (subst (λ l. Contains l a) (ap (λ m. row m b) is ∙ row_none (length g) b) edge));
}

pub one_turned : (g m new : Graph) (count : ℕ) (bs : List ℕ) → Turning g m count → bs ≡ row g count → new ≡ all_added m count bs → Turning g new (count + 1)
one_turned g m new count bs turning are is = subst (λ x. Turning g x (count + 1)) (sym is) (record {
  as_many = all_length bs m count ∙ turning.as_many;
  back = λ a b below edge within. elim (same_or_not a count) [
    | inl e ↦ subst (λ x. HasEdge (all_added m count bs) b x) (sym e)
        (all_here bs m count b (subst (λ l. Contains l b) (ap (row g) e ∙ sym are) edge) (subst (λ n. b < n) (sym turning.as_many) within))
    | inr other ↦ all_keep bs m count b a (turning.back a b (omega arith) edge within)
  ];
  only = λ a b edge. elim (all_only bs m count b a edge) [
    | inl before ↦ turning.only a b before
    | inr p ↦ subst (λ x. HasEdge g x b) p.1 (subst (λ l. Contains l b) are p.0)
  ];
})

pub all_turned : (g m : Graph) (count : ℕ) → length g ≤ count → Turning g m count → IsReverse g m
all_turned g m count all turning = record {
  as_many = turning.as_many;
  back = λ a b edge within. turning.back a b (omega (arith, from_node g a b edge)) edge within;
  only = turning.only;
}
