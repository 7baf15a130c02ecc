-- Chains of names along edges.
use Rattle.std.specs.Prelude.{◌≡◌, ℕ, zero, suc, nat_lt, Bool, true, false}
use Rattle.std.specs.Prelude.{List, [], ◌∷◌, length, Option, Some, None, slice_get, if◌then◌else◌}
use Rattle.std.specs.List.{flat_map, list_any}
use Rattle.gql_graph.specs.Cycles.{AreMarked, IsOnCycle, ReachesCycle}
use Rattle.gql_graph.specs.Graph.{Graph, row}

module _ (g : Graph) (named : ℕ) where
  -- The names that come next: only the nodes before `named` are names, and a chain goes on through another node to where its edges lead.
  abbrev pub next_names : ℕ → List ℕ
  next_names v = flat_map (λ w. if nat_lt w named then w ∷ [] else row g w) (row g v)

  -- a chain of so many names more begins at the node
  unfoldable pub has_chain : ℕ → ℕ → Bool
  has_chain zero v = nat_lt v (length g)
  has_chain (suc more) v = list_any (has_chain more) (next_names v)

  -- what is recursive, and what begins a chain of more than 32 names though no cycle is reached from it
  pub record AreJudged (recursive long : List Bool) : Type 0 where
    pub on_cycles : AreMarked (IsOnCycle g) (length g) recursive
    pub on_chains : AreMarked (λ v. (has_chain 32 v ≡ true) × (ReachesCycle g v → ⊥)) (length g) long

-- ---- marks of nodes

abbrev pub mark_of : Option Bool → Bool
mark_of None = false
mark_of (Some mark) = mark

abbrev pub is_marked : List Bool → ℕ → Bool
is_marked marks v = mark_of (slice_get marks v)
