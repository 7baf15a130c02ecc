-- When data and errors are explained, apart from how they are made: section 6.4.4 of GraphQL October 2021.
use Rattle.std.specs.Prelude.{◌≡◌, ℕ, ◌+◌, List, [], ◌∷◌, Option, Some, None}
use Rattle.jb_tree.specs.declared.value.Value.{Value}
use Rattle.jb_tree.specs.declared.value.Value.TheVariants as json
use Rattle.gql_response.specs.declared.graphql_error.GraphQLError.{GraphQLError}
use Rattle.gql_resolvers.specs.Resolved.{Meaning, Meanings, gives_leaf, gives_object, gives_list, no_answer, answer_then}
use Rattle.gql_resolvers.specs.Resolved.{Fault, Outcome, answered}
use Rattle.gql_resolvers.specs.World.{World, key_of}
use Rattle.gql_resolvers.specs.Trail.{Trail, held}
use Rattle.gql_resolvers.specs.Spot.{Spot, trail, item_spot, field_spot}
use Rattle.gql_resolvers.specs.Fault.{fault_at, fault_error}
use Rattle.gql_resolvers.specs.Reached.{Reaches}
use Rattle.gql_resolvers.specs.Execute.{Member}

module _ {X T G S : Type 0} (w : World X T G S) (root : T) (initial : X) (all : S) where
  -- an error is a true fault, and its null falls at the innermost place around it that may be null
  pub record IsFault (error : GraphQLError) (at : Option Trail) : Type 0 where
    pub spot : Spot G
    pub outcome : Outcome X
    pub reached : Reaches w root initial all spot outcome
    pub fault : Fault
    pub told : fault_at w spot outcome ≡ Some fault
    pub is : error ≡ fault_error w spot fault
    pub holds : held (trail spot) ≡ at

  -- wherever its null falls
  abbrev pub IsTrueFault : GraphQLError → Type 0
  IsTrueFault error = (at : Option Trail) × IsFault error at

  module _ (Listed : GraphQLError → Type 0) where
    -- some listed error is held there
    abbrev pub Holds : Option Trail → Type 0
    Holds at = (error : GraphQLError) × Listed error × IsFault error at

    mutual
      pub data IsGood : Spot G → Outcome X → Value → Type 0 where
        null_held : {spot : Spot G} {outcome : Outcome X} → Holds (Some (trail spot)) → IsGood spot outcome json.Null
        leaf_kept : {spot : Spot G} {v : Value} → w.misfit spot.type (gives_leaf v) ≡ None → IsGood spot (answered (gives_leaf v)) v
        list_kept : {spot : Spot G} {ms : Meanings X} {vs : List Value} → w.misfit spot.type (gives_list ms) ≡ None
            → ItemsAre spot 0 ms vs → IsGood spot (answered (gives_list ms)) (json.Array vs)
        object_kept : {spot : Spot G} {x : X} {members : List Member} (U : T) → w.misfit spot.type (gives_object x) ≡ None
            → w.type_of x ≡ Some U → FieldsAre U x (trail spot) (w.groups U (w.below spot.group)) members
            → IsGood spot (answered (gives_object x)) (json.Object members)

      -- item by item, from an index on
      pub data ItemsAre : Spot G → ℕ → Meanings X → List Value → Type 0 where
        no_item : {list : Spot G} {i : ℕ} → ItemsAre list i no_answer []
        item_good : {list : Spot G} {i : ℕ} {m : Meaning X} {ms : Meanings X} {v : Value} {vs : List Value}
            → IsGood (item_spot list i) (answered m) v → ItemsAre list (i + 1) ms vs → ItemsAre list i (answer_then m ms) (v ∷ vs)

      -- exactly the keys of the groups, in order
      pub data FieldsAre : T → X → Trail → List G → List Member → Type 0 where
        no_field : {U : T} {x : X} {outer : Trail} → FieldsAre U x outer [] []
        field_good : {U : T} {x : X} {outer : Trail} {g : G} {gs : List G} {v : Value} {members : List Member}
            → IsGood (field_spot w U outer g) (w.asks U x g) v → FieldsAre U x outer gs members
            → FieldsAre U x outer (g ∷ gs) ((key_of w g, v) ∷ members)

    -- the data is null with an error held at the root, or the root's own pairs
    abbrev pub IsExplainedBy : Option (List Member) → Type 0
    IsExplainedBy None = Holds None
    IsExplainedBy (Some members) = FieldsAre root initial [] (w.groups root all) members
