-- Nulls of failed items are explained by no list without errors.
use Rattle.std.proofs.Common.{arith, ◌≡◌, ◌⊎◌, inl, inr, ℕ, List, [], ◌∷◌, Option, Some, ap, subst, codes, pos}
use Rattle.std.specs.List.{filter}
use Rattle.std.specs.Prelude.{Contains}
use Rattle.jb_tree.specs.declared.value.Value.{Value}
use Rattle.jb_tree.specs.declared.value.Value.TheVariants as json
use Rattle.gql_collect.specs.Groups.{groups_of, is_defined}
use Rattle.gql_document_types.specs.declared.selection.Selection.{Selection}
use Rattle.gql_response.specs.declared.graphql_error.GraphQLError.{GraphQLError}
use Rattle.gql_schema_types.specs.declared.types.ObjectType.{ObjectType}
use Rattle.gql_resolvers.specs.Execute.{Member}
use Rattle.gql_resolvers.specs.Explained.{Holds, IsGood, ItemsAre, FieldsAre, IsExplainedBy, null_held, leaf_kept, list_kept, object_kept, no_item, item_good, no_field, field_good}
use Rattle.gql_resolvers.specs.Resolved.{Meanings, gives_leaf, gives_object, gives_list, gives_skip, fails_with, no_answer, answer_then, Outcome, answered, refused}
use Rattle.gql_resolvers.specs.Spot.{Spot, trail, item_spot, field_spot}
use Rattle.gql_resolvers.specs.Trail.{Trail}
use Rattle.gql_resolvers.specs.World.{World}
use Rattle.gql_exec.specs.Group.{Group, groups_from}
use Rattle.gql_exec_laws.specs.Example.{Thing, root}
use Rattle.gql_exec_laws.specs.Examples.{failed_items, list_query, f}
use Rattle.gql_exec_laws.specs.Explaining.{nulls}
use Rattle.gql_exec_laws.proofs.Computed.{world}
use Rattle.gql_exec_laws.proofs.Explaining.{only-known}
use Rattle.gql_exec_laws.proofs.FailedItem.{fields, group}

module _ {X T G S : Type 0} (w : World X T G S) (start : T) (initial : X) (all : S) (Listed : GraphQLError → Type 0) where
  abbrev Good : Spot G → Outcome X → Value → Type 0
  Good = IsGood w start initial all Listed

  abbrev HeldAt : Spot G → Type 0
  HeldAt spot = Holds w start initial all Listed (Some (trail spot))

  -- the first of some groups has a good value
  abbrev FirstField : T → X → Trail → List G → List Member → Type 0
  FirstField U x outer (g ∷ gs) (m ∷ ms) = Good (field_spot w U outer g) (w.asks U x g) m.1
  FirstField U x outer _ _ = Unit {0}

  first_field : {U : T} {x : X} {outer : Trail} {gs : List G} {ms : List Member} → FieldsAre w start initial all Listed U x outer gs ms
      → FirstField U x outer gs ms
  first_field no_field = tt
  first_field (field_good good rest) = good

  -- and so has the first of some answers
  abbrev FirstItem : Spot G → ℕ → Meanings X → List Value → Type 0
  FirstItem list i (answer_then m ms) (v ∷ vs) = Good (item_spot list i) (answered m) v
  FirstItem list i (answer_then m ms) [] = ⊥
  FirstItem list i no_answer vs = Unit {0}

  first_item : {list : Spot G} {i : ℕ} {ms : Meanings X} {vs : List Value} → ItemsAre w start initial all Listed list i ms vs → FirstItem list i ms vs
  first_item no_item = tt
  first_item (item_good good rest) = good

  -- what is good of a list and of a failure
  abbrev Shown : Spot G → Outcome X → Type 0
  Shown spot (answered (gives_list ms)) = HeldAt spot ⊎ ((vs : List Value) × ItemsAre w start initial all Listed spot 0 ms vs)
  Shown spot (answered (fails_with text)) = HeldAt spot
  Shown spot _ = Unit {0}

  from_held : (spot : Spot G) (outcome : Outcome X) → HeldAt spot → Shown spot outcome
  from_held spot (answered (gives_list ms)) held = inl held
  from_held spot (answered (fails_with text)) held = held
  from_held spot (answered (gives_leaf v)) held = tt
  from_held spot (answered (gives_object x)) held = tt
  from_held spot (answered gives_skip) held = tt
  from_held spot (refused fault) held = tt

  shown : {spot : Spot G} {outcome : Outcome X} {v : Value} → Good spot outcome v → Shown spot outcome
  shown {spot} {outcome} (null_held held) = from_held spot outcome held
  shown (leaf_kept fits) = tt
  shown (list_kept {vs = vs} fits items) = inr (vs, items)
  shown (object_kept U fits type members) = tt

  -- a list whose first item fails shows an error
  failed_first : (spot : Spot G) (text : List ℕ) (ms : Meanings X) → Shown spot (answered (gives_list (answer_then (fails_with text) ms)))
      → (error : GraphQLError) × Listed error
  failed_first spot text ms (inl held) = (held.0, held.1)
  failed_first spot text ms (inr (vs, items)) = by vs (first_item items)
    where
      by : (vs : List Value) → FirstItem spot 0 (answer_then (fails_with text) ms) vs → (error : GraphQLError) × Listed error
      by [] none = absurd none
      by (v ∷ vs) good = let held = shown good in (held.0, held.1)

abbrev w : World Thing ObjectType Group (List (List Selection))
w = world failed_items

groups : w.groups (list_query f) (failed_items.selections ∷ []) ≡ group f ∷ []
groups = ap (λ fs. groups_from (filter (is_defined failed_items.schema (list_query f)) (groups_of fs))) fields

-- whatever errors explain these nulls, there is one
some_error : (Listed : GraphQLError → Type 0) → IsExplainedBy w (list_query f) root (failed_items.selections ∷ []) Listed nulls
    → (error : GraphQLError) × Listed error
some_error Listed explained =
    let as_groups = subst (λ gs. FieldsAre w (list_query f) root (failed_items.selections ∷ []) Listed (list_query f) root [] gs ((codes "f", json.Array (json.Null ∷ json.Number (pos 42) ∷ json.Null ∷ [])) ∷ [])) groups explained in
    failed_first w (list_query f) root (failed_items.selections ∷ []) Listed (field_spot w (list_query f) [] (group f)) (codes "a") _
    (shown w (list_query f) root (failed_items.selections ∷ []) Listed (first_field w (list_query f) root (failed_items.selections ∷ []) Listed as_groups))

pub unlisted : (found : Option (List Member))
    → IsExplainedBy w failed_items.root_type root (failed_items.selections ∷ []) (Contains []) found → ⊥
unlisted found explained =
    let some = some_error (Contains []) (subst (IsExplainedBy w (list_query f) root (failed_items.selections ∷ []) (Contains [])) (only-known [] found explained) explained) in
    omega (arith, some.1.1)
