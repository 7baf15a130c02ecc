-- How many nodes data have: one for the data, and one for each place that has a value in them. A leaf is one, whatever it holds.
use Rattle.std.specs.Prelude.{ℕ, zero, suc, ◌+◌, Bool, true, false, List, [], ◌∷◌, Option, Some, None}
use Rattle.std.specs.Option.{option_map_or, unwrap_or}
use Rattle.std.specs.Map.{lookup}
use Rattle.std.specs.Str.{bytes_eq}
use Rattle.jb_tree.specs.declared.value.Value.{Value}
use Rattle.jb_tree.specs.Value.{array_items, object_members}
use Rattle.gql_resolvers.specs.Execute.{Member}
use Rattle.gql_resolvers.specs.Resolved.{Meaning, Meanings, gives_leaf, gives_object, gives_list, gives_skip, fails_with, no_answer, answer_then}
use Rattle.gql_resolvers.specs.Resolved.{Outcome, answered, refused}
use Rattle.gql_resolvers.specs.World.{World, key_of}

abbrev pub is_skip : {X : Type 0} → Meaning X → Bool
is_skip gives_skip = true
is_skip (gives_leaf v) = false
is_skip (gives_object x) = false
is_skip (gives_list ms) = false
is_skip (fails_with text) = false

-- an item that is left out has no value, and any other has the next one
abbrev pub with_item : Bool → (Value → ℕ) → (List Value → ℕ) → List Value → ℕ
with_item true first rest vs = rest vs
with_item false first rest [] = 0
with_item false first rest (v ∷ vs) = first v + rest vs

module _ {X T G S : Type 0} (w : World X T G S) where
  -- those of the members of an object
  abbrev pub Inside : Type 0
  Inside = T → X → S → List Member → ℕ

  abbrev pub object_nodes : Inside → G → X → Option T → Option (List Member) → ℕ
  object_nodes inside g x None members = 0
  object_nodes inside g x (Some U) None = 0
  object_nodes inside g x (Some U) (Some members) = inside U x (w.below g) members

  abbrev mutual
    -- those of a value that a place has
    pub value_nodes : Inside → G → Meaning X → Value → ℕ
    value_nodes inside g (gives_list ms) v = suc (items_nodes inside g ms (unwrap_or (array_items v) []))
    value_nodes inside g (gives_object x) v = suc (object_nodes inside g x (w.type_of x) (object_members v))
    value_nodes inside g (gives_leaf leaf) v = 1
    value_nodes inside g gives_skip v = 1
    value_nodes inside g (fails_with text) v = 1

    -- and of the values of its items
    pub items_nodes : Inside → G → Meanings X → List Value → ℕ
    items_nodes inside g no_answer vs = 0
    items_nodes inside g (answer_then m ms) vs = with_item (is_skip m) (value_nodes inside g m) (items_nodes inside g ms) vs

  abbrev pub outcome_nodes : Inside → G → Outcome X → Value → ℕ
  outcome_nodes inside g (answered m) v = value_nodes inside g m v
  outcome_nodes inside g (refused fault) v = 1

  -- those of the value under a group's key, where there is one
  abbrev pub field_nodes : Inside → T → X → List Member → G → ℕ
  field_nodes inside U x members g =
      option_map_or (λ v. outcome_nodes inside g (w.asks U x g) v) (lookup (bytes_eq (key_of w g)) members) 0

  abbrev pub fields_nodes : Inside → T → X → List Member → List G → ℕ
  fields_nodes inside U x members [] = 0
  fields_nodes inside U x members (g ∷ gs) = field_nodes inside U x members g + fields_nodes inside U x members gs

  -- those of the members of an object, to a depth of selection sets
  abbrev pub nodes_to : ℕ → Inside
  nodes_to zero U x s members = 0
  nodes_to (suc d) U x s members = fields_nodes (nodes_to d) U x members (w.groups U s)

  -- those of data
  abbrev pub nodes : ℕ → T → X → S → Option (List Member) → ℕ
  nodes d root initial all None = 1
  nodes d root initial all (Some members) = 1 + nodes_to d root initial all members
