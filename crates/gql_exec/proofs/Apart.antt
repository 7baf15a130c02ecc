-- No two ways of a plan are alike.
use Rattle.std.proofs.Common.{◌≡◌, inl, inr, ℕ, zero, suc, List, [], ◌∷◌, map, sym, ap, subst}
use Rattle.std.specs.List.{AllByRecursion}
use Rattle.gql_document_types.specs.declared.selection.Selection.{Selection}
use Rattle.gql_schema_types.specs.declared.types.ObjectType.{ObjectType}
use Rattle.gql_exec.specs.ThingMeaning.{Resolving}
use Rattle.gql_resolvers.specs.World.{key_of, DistinctKeys}
use Rattle.gql_collect.specs.Lists.{IsOneOf, AreApart}
use Rattle.gql_collect.specs.Plan.{group_in, groups_in}
use Rattle.gql_collect.specs.bridge.Plan.{AreCollected, AreNodes, HaveNodes, nodes_in, parts_in, sets_below, type_in}
use Rattle.gql_collect.specs.Ways.{Way}
use Rattle.gql_collect.specs.bridge.Ways.{Turn, key_in, part_ways, node_turns, turns_to, ways_to}
use Rattle.gql_collect.specs.declared.plan.Node.{Node}
use Rattle.gql_collect.specs.declared.plan.Part.{Part}
use Rattle.gql_collect.proofs.Joined.{all-of, map-one, one-joined, apart-map, apart-joined}
use Rattle.gql_collect.proofs.Nodes.{IsNodeTo, HasNodesTo}
use Rattle.gql_exec.specs.RequestWorld.{plain_world}
use Rattle.gql_exec.specs.bridge.Executing.{request_of}
use Rattle.gql_exec.specs.bridge.Planning.{ground_in}
use Rattle.gql_exec.specs.declared.executing.Executing.{Executing}
use Rattle.gql_exec.proofs.Collecting.{views-apart}
use Rattle.gql_exec.proofs.Views.{views}

all-in : {A : Type 0} (P : A → Type 0) (xs : List A) (x : A) → AllByRecursion P xs → IsOneOf x xs → P x
all-in P [] x all is = absurd is
all-in P (y ∷ ys) x all (inl same) = subst P (sym same) all.0
all-in P (y ∷ ys) x all (inr is) = all-in P ys x all.1 is

abbrev head_key : Way → List ℕ
head_key [] = []
head_key (step ∷ way) = step.0

-- the turn by which a way goes on
abbrev turn_of : ObjectType → Way → Turn
turn_of U [] = (U, [])
turn_of U (step ∷ way) = (step.1, way)

module _ (node : Node) where
  abbrev to : Way → Turn
  to way = (type_in node, way)

module _ (part : Part) where
  abbrev on : Turn → Way
  on turn = (key_in part, turn.0) ∷ turn.1

ways-long : (n : ℕ) (parts : List Part) → ¬ (IsOneOf [] (ways_to n parts))
ways-long n parts one =
    let found = one-joined (part_ways (turns_to n)) [] parts one in
    let there = map-one (on found.0) [] (turns_to n (nodes_in found.0)) found.2 in
    let never : [] ≡ on found.0 there.0 = there.2 in
    cc

module _ {X : Type 0} (e : Executing) (types : X → List ℕ) (resolves : Resolving X) where
  key-apart : (k : List ℕ) (parts : List Part) → AllByRecursion (λ h. ¬ (k ≡ key_of (plain_world (request_of e types resolves)) h)) (views (groups_in parts))
      → ¬ (IsOneOf k (map key_in parts))
  key-apart k [] all is = absurd is
  key-apart k (p ∷ ps) all (inl same) = all.0 same
  key-apart k (p ∷ ps) all (inr is) = key-apart k ps all.1 is

  keys-apart : (parts : List Part) → DistinctKeys (plain_world (request_of e types resolves)) (views (groups_in parts)) → AreApart (map key_in parts)
  keys-apart [] apart = tt
  keys-apart (p ∷ ps) apart = (key-apart (key_in p) ps apart.0, keys-apart ps apart.1)

  -- the ways of parts, where those of nodes are apart
  parts-apart : (n : ℕ) → ((sets : List (List Selection)) (nodes : List Node) → AreNodes (ground_in e) sets nodes → AreApart (turns_to n nodes))
      → (U : ObjectType) (sets : List (List Selection)) (parts : List Part) → AreCollected (ground_in e) U sets parts → HaveNodes (ground_in e) parts → AreApart (ways_to n parts)
  parts-apart n nodes_apart U sets parts collected have =
      apart-joined (part_ways (turns_to n)) key_in head_key parts
      (all-of _ parts (λ part is. (
        apart-map (on part) (λ x y same. same_turn part x y same) (turns_to n (nodes_in part))
            (nodes_apart (sets_below (group_in part)) (nodes_in part) (λ m. all-in (HasNodesTo (ground_in e) m) parts part (have m) is)),
        λ way one. let there = map-one (on part) way (turns_to n (nodes_in part)) one in ap head_key there.2,
      )))
      (keys-apart parts (views-apart (request_of e types resolves) U (groups_in parts) sets collected.groups))
    where
      same_turn : (part : Part) (x y : Turn) → on part x ≡ on part y → x ≡ y
      same_turn part x y same = ap (turn_of x.0) same

  pub nodes-apart : (n : ℕ) (sets : List (List Selection)) (nodes : List Node) → AreNodes (ground_in e) sets nodes → AreApart (turns_to n nodes)
  nodes-apart zero sets nodes are = tt
  nodes-apart (suc n) sets nodes are =
      apart-joined (node_turns (turns_to n)) (λ node. (type_in node).name.text) (λ turn. turn.0.name.text) nodes
      (all-of _ nodes (λ node is. (
        apart-map (to node) (λ x y same. ap (λ (t : Turn). t.1) same) ([] ∷ ways_to n (parts_in node)) (
          ways-long n (parts_in node),
          parts-apart n (λ ss ns a. nodes-apart n ss ns a) (type_in node) sets (parts_in node)
              (all-in (IsNodeTo (ground_in e) zero sets) nodes node (are (suc zero)).2 is).1 (λ m. (all-in (IsNodeTo (ground_in e) m sets) nodes node (are (suc m)).2 is).2),
        ),
        λ turn one. let there = map-one (to node) turn ([] ∷ ways_to n (parts_in node)) one in ap (λ (t : Turn). t.0.name.text) there.2,
      )))
      (are (suc zero)).1

  -- with the root's own
  pub all-apart : (n : ℕ) (U : ObjectType) (sets : List (List Selection)) (parts : List Part) → AreCollected (ground_in e) U sets parts → HaveNodes (ground_in e) parts
      → AreApart ([] ∷ ways_to n parts)
  all-apart n U sets parts collected have = (ways-long n parts, parts-apart n (nodes-apart n) U sets parts collected have)
