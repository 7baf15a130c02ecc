-- Where no edge leads on from where another leads, no node is on a cycle, and no chain is long.
use Rattle.std.proofs.Common.{◌≡◌, inl, inr, ℕ, zero, suc, nat_lt, Bool, true, false, cond, ◌||◌, ◌==◌, if◌then◌else◌, Some, None, List, [], ◌∷◌, length, replicate, refl, sym, ap, ◌∙◌, subst, arith}
use Rattle.std.specs.List.{Contains, slice_get, list_all, list_any, flat_map}
use Rattle.std.specs.Option.{unwrap_or}
use Rattle.std.proofs.lemmas.Bool.{eqb-true}
use Rattle.std.proofs.lemmas.Option.{slice_get_past}
use Rattle.gql_graph.specs.Chains.{AreJudged, has_chain}
use Rattle.gql_graph.specs.Cycles.{Reaches, at_once, along, IsOnCycle, ReachesCycle, AreMarked}
use Rattle.gql_graph.specs.bridge.Flat.{is_end, is_flat}
use Rattle.gql_graph.specs.Graph.{Graph, row, HasEdge}
use Rattle.gql_graph.proofs.Chained.{any_twice, or_false, both_true}
use Rattle.gql_graph.proofs.Flooded.{none_contained, Contains-cons_cases}

empty : (nodes : List ℕ) → (length nodes == 0) ≡ true → nodes ≡ []
empty [] h = refl
empty (v ∷ vs) h = absurd (omega (arith, eqb-true (length (v ∷ vs)) 0 h))

module _ (g : Graph) where
  -- where the edges of a node lead, in a part of the graph
  rows : (h : Graph) → list_all (list_all (is_end g)) h ≡ true → (v : ℕ) → list_all (is_end g) (row h v) ≡ true
  rows [] all v = ap (λ o. list_all (is_end g) (unwrap_or o [])) (slice_get_past [] v (omega arith))
  rows (r ∷ h) all zero = (both_true (list_all (is_end g) r) (list_all (list_all (is_end g)) h) all).0
  rows (r ∷ h) all (suc v) = rows h (both_true (list_all (is_end g) r) (list_all (list_all (is_end g)) h) all).1 v

  one_of : (nodes : List ℕ) (w : ℕ) → list_all (is_end g) nodes ≡ true → Contains nodes w → row g w ≡ []
  one_of [] w all c = absurd (none_contained w c)
  one_of (v ∷ vs) w all c =
      let both = both_true (is_end g v) (list_all (is_end g) vs) all in
      elim (Contains-cons_cases v vs w c) [
        | inl e ↦ empty (row g w) (subst (λ u. is_end g u ≡ true) e both.0)
        | inr later ↦ one_of vs w both.1 later
      ]

  module _ (flat : is_flat g ≡ true) where
    ends : (v w : ℕ) → HasEdge g v w → row g w ≡ []
    ends v w edge = one_of (row g v) w (rows g flat v) edge

    no_edge : (v w u : ℕ) → HasEdge g v w → HasEdge g w u → ⊥
    no_edge v w u edge next = none_contained u (subst (λ r. Contains r u) (ends v w edge) next)

    no_return : {v w : ℕ} → HasEdge g v w → Reaches g w v → ⊥
    no_return edge at_once = no_edge _ _ _ edge edge
    no_return edge (along next rest) = no_edge _ _ _ edge next

  -- no chain of a name more begins where no edge leads on
  no_names : (named more w : ℕ) → row g w ≡ [] → has_chain g named (suc more) w ≡ false
  unfolding has_chain
  no_names named more w none = ap (λ r. list_any (has_chain g named more) (flat_map (λ u. if nat_lt u named then u ∷ [] else row g u) r)) none

  none_next : (named more : ℕ) (ws : List ℕ) → list_all (is_end g) ws ≡ true
      → list_any (λ w. list_any (has_chain g named (suc more)) (if nat_lt w named then w ∷ [] else row g w)) ws ≡ false
  none_next named more [] all = refl
  none_next named more (w ∷ ws) all = λ i. here (nat_lt w named) i || none_next named more ws both.1 i
    where
      both : (is_end g w ≡ true) × (list_all (is_end g) ws ≡ true)
      both = both_true (is_end g w) (list_all (is_end g) ws) all

      here : (b : Bool) → list_any (has_chain g named (suc more)) (cond b (w ∷ []) (row g w)) ≡ false
      here true = or_false (has_chain g named (suc more) w) ∙ no_names named more w (empty (row g w) both.0)
      here false = ap (list_any (has_chain g named (suc more))) (empty (row g w) both.0)

  no_chain : (named more v : ℕ) → is_flat g ≡ true → has_chain g named (suc (suc more)) v ≡ false
  unfolding has_chain
  no_chain named more v flat =
      any_twice (has_chain g named (suc more)) (λ w. if nat_lt w named then w ∷ [] else row g w) (row g v) ∙ none_next named more (row g v) (rows g flat v)

-- ---- marks

as_many : (count : ℕ) → length (replicate count false) ≡ count
as_many zero = refl
as_many (suc count) = ap suc (as_many count)

none_true : (count v : ℕ) → slice_get (replicate count false) v ≡ Some true → ⊥
none_true zero v is = let h : None ≡ Some true = sym (slice_get_past [] v (omega arith)) ∙ is in cc
none_true (suc count) zero is = cc
none_true (suc count) (suc v) is = none_true count v is

unmarked : (Holds : ℕ → Type 0) (count : ℕ) → ((v : ℕ) → Holds v → ⊥) → (marks : List Bool) → marks ≡ replicate count false → AreMarked Holds count marks
unmarked Holds count never marks is = record {
  as_many = ap length is ∙ as_many count;
  marked = λ v within holds. absurd (never v holds);
  only = λ v marked. absurd (none_true count v (ap (λ l. slice_get l v) (sym is) ∙ marked));
}

pub judged_flat : (g : Graph) (named : ℕ) (recursive long : List Bool) → is_flat g ≡ true → recursive ≡ replicate (length g) false → long ≡ replicate (length g) false → AreJudged g named recursive long
judged_flat g named recursive long flat none none_long = record {
  on_cycles = unmarked (IsOnCycle g) (length g) (λ v c. no_return g flat c.1 c.2) recursive none;
  on_chains = unmarked (λ v. (has_chain g named 32 v ≡ true) × (ReachesCycle g v → ⊥)) (length g)
      (λ v h. let e : false ≡ true = sym (no_chain g named 30 v flat) ∙ h.0 in cc) long none_long;
}
