-- The first bad value of data, depth first in order: a place before what is in it.
use Rattle.std.specs.Prelude.{◌≡◌, ℕ, ◌+◌, List, [], ◌∷◌, map, Option, Some, None}
use Rattle.jb_tree.specs.declared.value.Value.{Value}
use Rattle.jb_tree.specs.declared.value.Value.TheVariants as json
use Rattle.gql_response.specs.declared.graphql_error.GraphQLError.{GraphQLError}
use Rattle.gql_resolvers.specs.Resolved.{Meaning, Meanings, gives_leaf, gives_object, gives_list, no_answer, answer_then}
use Rattle.gql_resolvers.specs.Resolved.{Outcome, answered}
use Rattle.gql_resolvers.specs.World.{World, key_of}
use Rattle.gql_resolvers.specs.Trail.{Segment, Trail, path_of}
use Rattle.gql_resolvers.specs.Spot.{Spot, trail, item_spot, field_spot}
use Rattle.gql_resolvers.specs.Execute.{Member}
use Rattle.gql_resolvers.specs.Explained.{Holds, IsGood}

abbrev pub names : List Member → List (List ℕ)
names members = map (λ (m : Member). m.0) members

abbrev pub keys_in : {X T G S : Type 0} → World X T G S → List G → List (List ℕ)
keys_in w groups = map (λ g. key_of w g) groups

-- as many values as answers
abbrev pub AreAsMany : {X : Type 0} → Meanings X → List Value → Type 0
AreAsMany no_answer [] = Unit {0}
AreAsMany no_answer (v ∷ vs) = ⊥
AreAsMany (answer_then m ms) [] = ⊥
AreAsMany (answer_then m ms) (v ∷ vs) = AreAsMany ms vs

module _ {X T G S : Type 0} (w : World X T G S) (root : T) (initial : X) (all : S) (Listed : GraphQLError → Type 0) where
  -- the value may stand at the place, what is inside it left aside: a list by its length, an object by its keys in order
  pub data Fits : Spot G → Outcome X → Value → Type 0 where
    null_fits : {spot : Spot G} {outcome : Outcome X} → Holds w root initial all Listed (Some (trail spot)) → Fits spot outcome json.Null
    leaf_fits : {spot : Spot G} {v : Value} → w.misfit spot.type (gives_leaf v) ≡ None → Fits spot (answered (gives_leaf v)) v
    list_fits : {spot : Spot G} {ms : Meanings X} (vs : List Value) → w.misfit spot.type (gives_list ms) ≡ None → AreAsMany ms vs
        → Fits spot (answered (gives_list ms)) (json.Array vs)
    object_fits : {spot : Spot G} {x : X} (members : List Member) (U : T) → w.misfit spot.type (gives_object x) ≡ None → w.type_of x ≡ Some U
        → names members ≡ keys_in w (w.groups U (w.below spot.group)) → Fits spot (answered (gives_object x)) (json.Object members)

  mutual
    -- the first bad value at a place, or in it, has this path
    pub data FirstBad : Spot G → Outcome X → Value → List Segment → Type 0 where
      unfit : {spot : Spot G} {outcome : Outcome X} {v : Value} → (Fits spot outcome v → ⊥) → FirstBad spot outcome v (path_of (trail spot))
      in_list : {spot : Spot G} {ms : Meanings X} (vs : List Value) {path : List Segment} → w.misfit spot.type (gives_list ms) ≡ None → AreAsMany ms vs
          → FirstItem spot 0 ms vs path → FirstBad spot (answered (gives_list ms)) (json.Array vs) path
      in_object : {spot : Spot G} {x : X} (members : List Member) {path : List Segment} (U : T)
          → w.misfit spot.type (gives_object x) ≡ None → w.type_of x ≡ Some U → names members ≡ keys_in w (w.groups U (w.below spot.group))
          → FirstField U x (trail spot) (w.groups U (w.below spot.group)) members path
          → FirstBad spot (answered (gives_object x)) (json.Object members) path

    -- all items before it are good
    pub data FirstItem : Spot G → ℕ → Meanings X → List Value → List Segment → Type 0 where
      item_bad : {list : Spot G} {i : ℕ} {m : Meaning X} {ms : Meanings X} {v : Value} {vs : List Value} {path : List Segment}
          → FirstBad (item_spot list i) (answered m) v path → FirstItem list i (answer_then m ms) (v ∷ vs) path
      item_later : {list : Spot G} {i : ℕ} {m : Meaning X} {ms : Meanings X} {v : Value} {vs : List Value} {path : List Segment}
          → IsGood w root initial all Listed (item_spot list i) (answered m) v → FirstItem list (i + 1) ms vs path
          → FirstItem list i (answer_then m ms) (v ∷ vs) path

    -- all fields before it are good
    pub data FirstField : T → X → Trail → List G → List Member → List Segment → Type 0 where
      field_bad : {U : T} {x : X} {outer : Trail} {g : G} {gs : List G} {v : Value} {members : List Member} {path : List Segment}
          → FirstBad (field_spot w U outer g) (w.asks U x g) v path → FirstField U x outer (g ∷ gs) ((key_of w g, v) ∷ members) path
      field_later : {U : T} {x : X} {outer : Trail} {g : G} {gs : List G} {v : Value} {members : List Member} {path : List Segment}
          → IsGood w root initial all Listed (field_spot w U outer g) (w.asks U x g) v → FirstField U x outer gs members path
          → FirstField U x outer (g ∷ gs) ((key_of w g, v) ∷ members) path

  -- of all the data: null that no listed error brings, other keys than those of the groups in order, or the first bad field
  pub data FirstOfAll : Option (List Member) → List Segment → Type 0 where
    null_unheld : (Holds w root initial all Listed None → ⊥) → FirstOfAll None []
    other_keys : (members : List Member) → (names members ≡ keys_in w (w.groups root all) → ⊥) → FirstOfAll (Some members) []
    in_root : (members : List Member) {path : List Segment} → names members ≡ keys_in w (w.groups root all)
        → FirstField root initial [] (w.groups root all) members path → FirstOfAll (Some members) path
