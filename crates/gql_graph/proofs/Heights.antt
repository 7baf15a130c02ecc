-- Heights: how many edges a walk from a node has at most, as far as is looked.
use Rattle.std.proofs.Common.{◌≡◌, ◌≢◌, ◌⊎◌, inl, inr, ℕ, zero, suc, ◌<◌, ◌≤◌, max, true, false, Option, Some, None, List, [], ◌∷◌, length, refl, sym, ap, ◌∙◌, subst, arith}
use Rattle.std.specs.List.{AllByRecursion, Contains, IsDistinct, slice_get}
use Rattle.std.specs.Option.{unwrap_or}
use Rattle.std.proofs.Math.Dec.{eqb}
use Rattle.std.proofs.lemmas.Bool.{cases_lt}
use Rattle.std.proofs.lemmas.Bool.Decides.{eqb_tells}
use Rattle.std.proofs.lemmas.Map.Steps.{length-le_from_distinct_below}
use Rattle.std.proofs.lemmas.Map.Views.{Contains-from_any}
use Rattle.std.proofs.lemmas.Bool.{eqb-true}
use Rattle.std.proofs.lemmas.Option.{slice_get_within}
use Rattle.gql_graph.specs.Cycles.{Reaches, at_once, along, IsOnCycle}
use Rattle.gql_graph.specs.Graph.{Graph, row, HasEdge}
use Rattle.gql_graph.specs.Ranks.{IsRanked}

-- ---- the highest of some nodes, and one more
abbrev highest : (ℕ → ℕ) → List ℕ → ℕ
highest f [] = 0
highest f (b ∷ bs) = max (suc (f b)) (highest f bs)

first_or_later : (b x : ℕ) (bs : List ℕ) → Contains (b ∷ bs) x → (b ≡ x) ⊎ Contains bs x
first_or_later b x bs (zero, within, is) = inl is
first_or_later b x bs (suc i, within, is) = inr (i, omega (arith, within), is)

contains_first : (b : ℕ) (bs : List ℕ) → Contains (b ∷ bs) b
contains_first b bs = (0, omega arith, refl)

contains_later : (b x : ℕ) (bs : List ℕ) → Contains bs x → Contains (b ∷ bs) x
contains_later b x bs (i, within, is) = (suc i, omega (arith, within), is)

highest-above : (f : ℕ → ℕ) (bs : List ℕ) (b : ℕ) → Contains bs b → suc (f b) ≤ highest f bs
highest-above f [] b there = omega (arith, there.1)
highest-above f (c ∷ bs) b there = by_place (highest-above f bs b) (first_or_later c b bs there)
  where
    by_place : (Contains bs b → suc (f b) ≤ highest f bs) → (c ≡ b) ⊎ Contains bs b → suc (f b) ≤ max (suc (f c)) (highest f bs)
    by_place below (inl is) = omega (arith, ap f is)
    by_place below (inr later) = omega (arith, below later)

highest-le : (f : ℕ → ℕ) (n : ℕ) → ((b : ℕ) → f b ≤ n) → (bs : List ℕ) → highest f bs ≤ suc n
highest-le f n low [] = omega arith
highest-le f n low (b ∷ bs) = omega (arith, low b, highest-le f n low bs)

-- the highest is that of one of them
highest-of_one : (f : ℕ → ℕ) (n : ℕ) (bs : List ℕ) → highest f bs ≡ suc n → (b : ℕ) × Contains bs b × (f b ≡ n)
highest-of_one f n [] is = absurd (omega (arith, is))
highest-of_one f n (b ∷ bs) is = by_order (highest-of_one f n bs) (cases_lt (f b) n)
  where
    later : (c : ℕ) × Contains bs c × (f c ≡ n) → (c : ℕ) × Contains (b ∷ bs) c × (f c ≡ n)
    later (c, there, is) = (c, contains_later b c bs there, is)

    by_order : (highest f bs ≡ suc n → (c : ℕ) × Contains bs c × (f c ≡ n)) → (f b < n) ⊎ (n ≤ f b) → (c : ℕ) × Contains (b ∷ bs) c × (f c ≡ n)
    by_order below (inl low) = later (below (omega (arith, low, is)))
    by_order below (inr high) = (b, contains_first b bs, omega (arith, high, is))

highest-same : (f g : ℕ → ℕ) (bs : List ℕ) → ((b : ℕ) → Contains bs b → f b ≡ g b) → highest f bs ≡ highest g bs
highest-same f g [] same = refl
highest-same f g (b ∷ bs) same =
    omega (arith, same b (contains_first b bs), highest-same f g bs (λ c there. same c (contains_later b c bs there)))

-- ---- heights
abbrev height : Graph → ℕ → ℕ → ℕ
height g zero a = 0
height g (suc k) a = highest (height g k) (row g a)

height-le : (g : Graph) (k a : ℕ) → height g k a ≤ k
height-le g zero a = omega arith
height-le g (suc k) a = highest-le (height g k) k (height-le g k) (row g a)

-- where a look is longer than the longest walk, a longer one sees no more
height-stays : (g : Graph) (k a : ℕ) → height g k a < k → height g (suc k) a ≡ height g k a
height-stays g zero a low = absurd (omega (arith, low))
height-stays g (suc k) a low =
    highest-same (height g (suc k)) (height g k) (row g a)
    (λ b there. height-stays g k b (omega (arith, highest-above (height g k) (row g a) b there, low)))

-- ---- walks by their sources
abbrev Sources : Graph → ℕ → List ℕ → Type 0
Sources g a [] = Unit {0}
Sources g a (x ∷ xs) = (a ≡ x) × (b : ℕ) × HasEdge g a b × Sources g b xs

walk_so_high : (g : Graph) (k a : ℕ) → height g k a ≡ k → (xs : List ℕ) × Sources g a xs × (length xs ≡ k)
walk_so_high g zero a is = ([], tt, refl)
walk_so_high g (suc k) a is = from_one (walk_so_high g k) (highest-of_one (height g k) k (row g a) is)
  where
    behind : (b : ℕ) → HasEdge g a b → (xs : List ℕ) × Sources g b xs × (length xs ≡ k) → (xs : List ℕ) × Sources g a xs × (length xs ≡ suc k)
    behind b edge (xs, walk, long) = (a ∷ xs, (refl, b, edge, walk), ap suc long)

    from_one : ((b : ℕ) → height g k b ≡ k → (xs : List ℕ) × Sources g b xs × (length xs ≡ k))
        → (b : ℕ) × HasEdge g a b × (height g k b ≡ k) → (xs : List ℕ) × Sources g a xs × (length xs ≡ suc k)
    from_one below (b, edge, high) = behind b edge (below b high)

source-reached : (g : Graph) (a x : ℕ) (xs : List ℕ) → Sources g a xs → Contains xs x → Reaches g a x
source-reached g a x [] walk there = absurd (omega (arith, there.1))
source-reached g a x (y ∷ xs) (is, b, edge, rest) there = by_place (source-reached g b x xs rest) (first_or_later y x xs there)
  where
    by_place : (Contains xs x → Reaches g b x) → (y ≡ x) ⊎ Contains xs x → Reaches g a x
    by_place below (inl same) = subst (Reaches g a) (is ∙ same) at_once
    by_place below (inr later) = along edge (below later)

has_row : (g : Graph) (a b : ℕ) → HasEdge g a b → a < length g
has_row g a b edge = by_row (slice_get g a) refl edge
  where
    by_row : (o : Option (List ℕ)) → slice_get g a ≡ o → Contains (unwrap_or o []) b → a < length g
    by_row None is edge = absurd (omega (arith, edge.1))
    by_row (Some r) is edge = slice_get_within g a r is

source-within : (g : Graph) (a x : ℕ) (xs : List ℕ) → Sources g a xs → Contains xs x → x < length g
source-within g a x [] walk there = absurd (omega (arith, there.1))
source-within g a x (y ∷ xs) (is, b, edge, rest) there = by_place (source-within g b x xs rest) (first_or_later y x xs there)
  where
    by_place : (Contains xs x → x < length g) → (y ≡ x) ⊎ Contains xs x → x < length g
    by_place below (inl same) = subst (λ z. z < length g) (is ∙ same) (has_row g a b edge)
    by_place below (inr later) = below later

apart : (x : ℕ) (xs : List ℕ) → (Contains xs x → ⊥) → AllByRecursion (λ y. eqb x y ≡ false) xs
apart x [] none = tt
apart x (y ∷ xs) none = (by_test (eqb_tells x y), apart x xs (λ there. none (contains_later y x xs there)))
  where
    by_test : ((eqb x y ≡ true) × (x ≡ y)) ⊎ ((eqb x y ≡ false) × (x ≢ y)) → eqb x y ≡ false
    by_test (inl same) = absurd (none (subst (λ z. Contains (z ∷ xs) x) same.1 (contains_first x xs)))
    by_test (inr other) = other.0

module _ (g : Graph) (acyclic : (v : ℕ) → IsOnCycle g v → ⊥) where
  -- no source of a walk stands twice
  sources-distinct : (a : ℕ) (xs : List ℕ) → Sources g a xs → IsDistinct eqb xs
  unfolding IsDistinct
  sources-distinct a [] walk = tt
  sources-distinct a (x ∷ xs) (is, b, edge, rest) =
      (apart x xs (λ there. acyclic a (b, edge, subst (Reaches g b) (sym is) (source-reached g b x xs rest there))), sources-distinct b xs rest)

  sources-few : (a : ℕ) (xs : List ℕ) → Sources g a xs → length xs ≤ length g
  sources-few a xs walk =
      length-le_from_distinct_below xs (length g) (sources-distinct a xs walk)
      (λ q found. source-within g a q xs walk (Contains-from_any eqb-true q xs found))

  abbrev rank : ℕ → ℕ
  rank a = height g (suc (length g)) a

  rank-low : (a : ℕ) → rank a < suc (length g)
  rank-low a = by_order (cases_lt (rank a) (suc (length g)))
    where
      too_long : (xs : List ℕ) × Sources g a xs × (length xs ≡ suc (length g)) → rank a < suc (length g)
      too_long (xs, walk, long) = absurd (omega (arith, sources-few a xs walk, long))

      by_order : (rank a < suc (length g)) ⊎ (suc (length g) ≤ rank a) → rank a < suc (length g)
      by_order (inl low) = low
      by_order (inr high) = too_long (walk_so_high g (suc (length g)) a (omega (arith, high, height-le g (suc (length g)) a)))

  pub ranked : (rank : ℕ → ℕ) × IsRanked g rank
  ranked = (
    rank,
    record {
      falls = λ a b edge. omega (arith, height-stays g (suc (length g)) a (rank-low a), highest-above (height g (suc (length g))) (row g a) b edge);
      bounded = λ a. omega (arith, rank-low a);
    },
  )
