-- Graphs whose walks are short: no node is on a cycle, and chains end.
use Rattle.std.proofs.Common.{◌≡◌, ◌⊎◌, inl, inr, ℕ, zero, suc, ◌<◌, nat_lt, Bool, true, false, ◌||◌, if◌then◌else◌, Some, List, [], ◌∷◌, refl, sym, ap, ◌∙◌, subst, arith}
use Rattle.std.specs.List.{Contains, AllByRecursion, slice_get, list_any, flat_map}
use Rattle.gql_graph.specs.Chains.{next_names, has_chain}
use Rattle.gql_graph.specs.Cycles.{Reaches, at_once, along, IsOnCycle}
use Rattle.gql_graph.specs.Graph.{Graph, row, HasEdge}
use Rattle.gql_graph.proofs.Flooded.{Contains-cons_cases, none_contained}
use Rattle.gql_graph.proofs.Walks.{reaches_more}
use Rattle.gql_client_schema_laws.proofs.Pairs.{all_weaker, all_flat}

-- ---- something holds of each item

pub all_in : {X : Type 0} (P : X → Type 0) (xs : List X) (x : X) → AllByRecursion P xs → Contains xs x → P x
all_in P [] x all c = absurd (none_contained x c)
all_in P (y ∷ xs) x all c = by_cases (Contains-cons_cases y xs x c) (all_in P xs x all.1)
  where
    by_cases : (y ≡ x) ⊎ Contains xs x → (Contains xs x → P x) → P x
    by_cases (inl e) later = subst P e all.0
    by_cases (inr more) later = later more

pub all_at : {X : Type 0} (P : X → Type 0) (xs : List X) (v : ℕ) (x : X) → AllByRecursion P xs → slice_get xs v ≡ Some x → P x
all_at P [] v x all is = absurd cc
all_at P (y ∷ xs) zero x all is = let e : y ≡ x = cc in subst P e all.0
all_at P (y ∷ xs) (suc v) x all is = all_at P xs v x all.1 is

pub none_of : {X : Type 0} (test : X → Bool) (xs : List X) → AllByRecursion (λ x. test x ≡ false) xs → list_any test xs ≡ false
none_of test [] all = refl
none_of test (x ∷ xs) all = ap (λ b. b || list_any test xs) all.0 ∙ none_of test xs all.1

-- ---- walks from a node have fewer than so many edges

module _ (g : Graph) where
  abbrev pub EndsWithin : ℕ → ℕ → Type 0
  EndsWithin zero v = row g v ≡ []
  EndsWithin (suc k) v = AllByRecursion (EndsWithin k) (row g v)

  pub longer : (k v : ℕ) → EndsWithin k v → EndsWithin (suc k) v
  longer zero v ends = subst (AllByRecursion (EndsWithin zero)) (sym ends) tt
  longer (suc k) v ends = all_weaker (EndsWithin k) (EndsWithin (suc k)) (longer k) (row g v) ends

  turn : {v w : ℕ} → HasEdge g v w → Reaches g w v → IsOnCycle g w
  turn {v} {w} edge at_once = (v, edge, at_once)
  turn {v} {w} edge (along {b = x} first rest) = (x, first, reaches_more g w rest edge)

  pub on_no_cycle : (k v : ℕ) → EndsWithin k v → IsOnCycle g v → ⊥
  on_no_cycle zero v ends cycle = none_contained cycle.0 (subst (λ r. Contains r cycle.0) ends cycle.1)
  on_no_cycle (suc k) v ends cycle = on_no_cycle k cycle.0 (all_in (EndsWithin k) (row g v) cycle.0 ends cycle.1) (turn cycle.1 cycle.2)

  module _ (named : ℕ) where
    abbrev NoChain : ℕ → ℕ → Type 0
    NoChain m v = has_chain g named m v ≡ false

    abbrev next : ℕ → List ℕ
    next w = if nat_lt w named then w ∷ [] else row g w

    next_none : (P : ℕ → Type 0) (w : ℕ) (b : Bool) → P w → AllByRecursion P (row g w) → AllByRecursion P (if b then w ∷ [] else row g w)
    next_none P w true here rest = (here, tt)
    next_none P w false here rest = rest

    pub no_chain : (k m v : ℕ) → EndsWithin k v → k < m → has_chain g named m v ≡ false
    unfolding has_chain
    no_chain k zero v ends small = absurd (omega arith)
    no_chain zero (suc m) v ends small = ap (λ r. list_any (has_chain g named m) (flat_map next r)) ends
    no_chain (suc k) (suc m) v ends small =
        let less : k < m = omega arith in
        none_of (has_chain g named m) (next_names g named v)
        (all_flat (NoChain m) next (row g v)
        (all_weaker (EndsWithin k) (λ w. AllByRecursion (NoChain m) (next w))
        (λ w low. next_none (NoChain m) w (nat_lt w named) (no_chain k m w low less)
        (all_weaker (EndsWithin k) (NoChain m) (λ u lower. no_chain k m u lower less) (row g w) (longer k w low)))
        (row g v) ends))
