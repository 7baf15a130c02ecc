-- What only private clauses and proofs cite, beside `Ways`.
use Rattle.std.specs.Prelude.{◌≡◌, ◌≤◌, ◌+◌, ◌*◌, ◌⊎◌, ℕ, zero, suc, List, [], ◌∷◌, length, map}
use Rattle.std.specs.List.{flat_map}
use Rattle.gql_schema_types.specs.declared.types.ObjectType.{ObjectType}
use Rattle.gql_collect.specs.Groups.{response_key}
use Rattle.gql_collect.specs.Plan.{group_in}
use Rattle.gql_collect.specs.bridge.Plan.{nodes_in, parts_in, type_in}
use Rattle.gql_collect.specs.Lists.{IsOneOf}
use Rattle.gql_collect.specs.declared.plan.Node.{Node}
use Rattle.gql_collect.specs.declared.plan.Part.{Part}
use Rattle.gql_collect.specs.Ways.{Way}

-- an object type, and the way on from its objects
abbrev pub Turn : Type 0
Turn = ObjectType × Way

abbrev pub key_in : Part → List ℕ
key_in part = response_key (group_in part).first.now

-- the ways through a part, and those through a node and on from it
abbrev pub part_ways : (List Node → List Turn) → Part → List Way
part_ways turns part = map (λ (turn : Turn). (key_in part, turn.0) ∷ turn.1) (turns (nodes_in part))

abbrev pub node_turns : (List Node → List Turn) → Node → List Turn
node_turns turns node = map (λ (way : Way). (type_in node, way)) ([] ∷ flat_map (part_ways turns) (parts_in node))

-- those of nodes, so many nodes down, and those of parts
abbrev pub turns_to : ℕ → List Node → List Turn
turns_to zero nodes = []
turns_to (suc n) nodes = flat_map (node_turns (turns_to n)) nodes

abbrev pub ways_to : ℕ → List Part → List Way
ways_to n parts = flat_map (part_ways (turns_to n)) parts

-- A list that grows while looks are counted: they rise by at most so many for each item that is added, where the list is taken
-- deep enough; and this holds of each item that is added.
pub record Grows {A : Type 0} (most before after : ℕ) (old new : ℕ → List A) (Holds : A → Type 0) : Type 0 where
  pub rises : before ≤ after
  pub levels : ℕ
  pub looks : (n : ℕ) → levels ≤ n → after + length (old n) * most ≤ before + length (new n) * most
  pub holds : (n : ℕ) (item : A) → IsOneOf item (new n) → IsOneOf item (old n) ⊎ Holds item

-- a turn to this type, with a way on of which this holds
abbrev pub TurnsTo : ObjectType → (Way → Type 0) → Turn → Type 0
TurnsTo U Holds turn = (turn.0 ≡ U) × Holds turn.1
