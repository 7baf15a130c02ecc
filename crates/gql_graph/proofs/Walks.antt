-- Walks along edges, and the other way round.
use Rattle.std.proofs.Common.{◌≡◌, ◌<◌, ℕ, Option, Some, None, List, [], length, refl}
use Rattle.std.specs.List.{Contains, slice_get}
use Rattle.std.specs.Option.{unwrap_or}
use Rattle.std.proofs.lemmas.Option.{slice_get_within}
use Rattle.gql_graph.specs.Cycles.{Reaches, at_once, along}
use Rattle.gql_graph.specs.bridge.Cycles.{IsMutual, IsReverse}
use Rattle.gql_graph.specs.Graph.{Graph, HasEdge}
use Rattle.gql_graph.specs.bridge.Graph.{WalkOver, here, step}
use Rattle.gql_graph.proofs.Flooded.{none_contained}

pub reaches_more : (g : Graph) {a b : ℕ} (c : ℕ) → Reaches g a b → HasEdge g b c → Reaches g a c
reaches_more g c at_once edge = along edge at_once
reaches_more g c (along first rest) edge = along first (reaches_more g c rest edge)

pub reaches_trans : (g : Graph) {a b c : ℕ} → Reaches g a b → Reaches g b c → Reaches g a c
reaches_trans g at_once r = r
reaches_trans g (along edge rest) r = along edge (reaches_trans g rest r)

pub mutual_sym : (g : Graph) (a b : ℕ) → IsMutual g a b → IsMutual g b a
mutual_sym g a b m = (m.1, m.0)

pub mutual_trans : (g : Graph) (a b c : ℕ) → IsMutual g a b → IsMutual g b c → IsMutual g a c
mutual_trans g a b c m n = (reaches_trans g m.0 n.0, reaches_trans g n.1 m.1)

-- a walk over marked nodes is a walk
pub forget : (g : Graph) (states : List ℕ) (mark : ℕ) {a b : ℕ} → WalkOver g states mark a b → Reaches g a b
forget g states mark (here is) = at_once
forget g states mark (step is edge walk) = along edge (forget g states mark walk)

-- a walk each of whose nodes is marked is one over marked nodes
pub lift : (g : Graph) (states : List ℕ) (mark : ℕ) {a b : ℕ} → ((x : ℕ) → Reaches g a x → Reaches g x b → slice_get states x ≡ Some mark) → Reaches g a b → WalkOver g states mark a b
lift g states mark {a} {b} each at_once = here (each a at_once at_once)
lift g states mark {a} {b} each (along edge rest) = step (each a at_once (along edge rest)) edge (lift g states mark (λ y to from. each y (along edge to) from) rest)

-- only nodes have edges
pub from_node : (g : Graph) (a b : ℕ) → HasEdge g a b → a < length g
from_node g a b edge = by_row (slice_get g a) refl edge
  where
    by_row : (o : Option (List ℕ)) → slice_get g a ≡ o → Contains (unwrap_or o []) b → a < length g
    by_row None is edge = absurd (none_contained b edge)
    by_row (Some r) is edge = slice_get_within g a r is

pub inside : (g : Graph) {a b : ℕ} → Reaches g a b → b < length g → a < length g
inside g at_once within = within
inside g {a} {b} (along {b = c} edge rest) within = from_node g a c edge

module _ (g r : Graph) (rev : IsReverse g r) where
  pub backward : {a b : ℕ} → b < length g → Reaches g a b → Reaches r b a
  backward within at_once = at_once
  backward {a} {b} within (along {b = x} edge rest) = reaches_more r a (backward within rest) (rev.back a x edge (inside g rest within))

  pub forward : {b a : ℕ} → Reaches r b a → Reaches g a b
  forward at_once = at_once
  forward {b} {a} (along {b = x} edge rest) = reaches_more g b (forward rest) (rev.only x b edge)
