-- Execution: the data, none where a null is passed on, and the errors in order. Sections 6.3 and 6.4 of GraphQL October 2021.
use Rattle.std.specs.Prelude.{ℕ, zero, suc, ◌+◌, List, [], ◌∷◌, ◌++◌, Option, Some, None, Bool, true, false}
use Rattle.std.specs.Option.{option_map}
use Rattle.jb_tree.specs.declared.value.Value.{Value}
use Rattle.jb_tree.specs.declared.value.Value.TheVariants as json
use Rattle.gql_response.specs.declared.graphql_error.GraphQLError.{GraphQLError}
use Rattle.gql_ast_base.specs.TypeParts.{is_non_null}
use Rattle.gql_resolvers.specs.Resolved.{Meaning, Meanings, gives_leaf, gives_object, gives_list, gives_skip, fails_with, no_answer, answer_then}
use Rattle.gql_resolvers.specs.Resolved.{Misfit, Outcome, answered, refused}
use Rattle.gql_resolvers.specs.World.{World, key_of}
use Rattle.gql_resolvers.specs.Trail.{Trail}
use Rattle.gql_resolvers.specs.Spot.{Spot, trail, item_spot, field_spot}
use Rattle.gql_resolvers.specs.Fault.{told_at, fault_error}

-- none is a null that is passed on; what is left out is an empty list
abbrev pub Made : Type 0 → Type 0
Made A = Option (List A) × List GraphQLError

abbrev pub Member : Type 0
Member = List ℕ × Value

abbrev pub front_of : {A : Type 0} → List A → Option (List A) → Option (List A)
front_of xs None = None
front_of xs (Some ys) = Some (xs ++ ys)

abbrev pub then_rest_of : {A : Type 0} → Option (List A) → List GraphQLError → Made A → Made A
then_rest_of None es rest = (None, es)
then_rest_of (Some xs) es rest = (front_of xs rest.0, es ++ rest.1)

-- what is made first, and then the rest, which is not looked at where a null is passed on
abbrev pub then_rest : {A : Type 0} → Made A → Made A → Made A
then_rest first rest = then_rest_of first.0 first.1 rest

abbrev pub keyed : List ℕ → List Value → List Member
keyed k [] = []
keyed k (v ∷ vs) = (k, v) ∷ keyed k vs

abbrev pub with_key : List ℕ → Made Value → Made Member
with_key k made = (option_map (λ vs. keyed k vs) made.0, made.1)

abbrev pub one_array : Made Value → Made Value
one_array made = (option_map (λ vs. json.Array vs ∷ []) made.0, made.1)

abbrev pub one_object : Made Member → Made Value
one_object made = (option_map (λ ms. json.Object ms ∷ []) made.0, made.1)

abbrev pub null_or_pass : Bool → Option (List Value)
null_or_pass false = Some (json.Null ∷ [])
null_or_pass true = None

abbrev pub settled_by : Bool → Option (List Value) → Option (List Value)
settled_by strict None = null_or_pass strict
settled_by strict (Some vs) = Some vs

-- a null is passed on outward where the type rules it out
abbrev pub settled : {G : Type 0} → Spot G → Made Value → Made Value
settled spot made = (settled_by (is_non_null spot.type) made.0, made.1)

module _ {X T G S : Type 0} (w : World X T G S) where
  abbrev pub unless_misfit : Spot G → Option Misfit → Made Value → Made Value
  unless_misfit spot (Some misfit) made = (None, fault_error w spot (told_at (w.span_of spot.group) misfit) ∷ [])
  unless_misfit spot None made = made

  -- the executor of what is selected below
  abbrev pub Below : Type 0
  Below = T → X → Trail → S → Made Member

  abbrev pub object_made : Below → Spot G → X → Option T → Made Value
  object_made run spot x None = (Some [], [])
  object_made run spot x (Some U) = one_object (run U x (trail spot) (w.below spot.group))

  abbrev mutual
    -- what is made of an answer that fits
    pub value_made : Below → Spot G → Meaning X → Made Value
    value_made run spot (gives_leaf v) = (Some (v ∷ []), [])
    value_made run spot (gives_object x) = object_made run spot x (w.type_of x)
    value_made run spot (gives_list ms) = one_array (items_made run spot 0 ms)
    value_made run spot gives_skip = (Some [], [])
    value_made run spot (fails_with text) = (Some [], [])

    -- the items of a list, from an index on, each completed as any value: one that fails or doesn't fit is null where its type
    -- may be null, else it ends the list
    pub items_made : Below → Spot G → ℕ → Meanings X → Made Value
    items_made run list i no_answer = (Some [], [])
    items_made run list i (answer_then m ms) =
        let spot = item_spot list i in
        then_rest (settled spot (unless_misfit spot (w.misfit spot.type m) (value_made run spot m))) (items_made run list (i + 1) ms)

  -- CompleteValue
  abbrev pub completed : Below → Spot G → Meaning X → Made Value
  completed run spot m = settled spot (unless_misfit spot (w.misfit spot.type m) (value_made run spot m))

  -- ExecuteField
  abbrev pub field_made : Below → Spot G → Outcome X → Made Value
  field_made run spot (answered m) = completed run spot m
  field_made run spot (refused fault) = settled spot (None, fault_error w spot fault ∷ [])

  abbrev pub groups_made : Below → T → X → Trail → List G → Made Member
  groups_made run U x outer [] = (Some [], [])
  groups_made run U x outer (g ∷ gs) =
      then_rest (with_key (key_of w g) (field_made run (field_spot w U outer g) (w.asks U x g))) (groups_made run U x outer gs)

  -- ExecuteSelectionSet, to a depth of selection sets
  abbrev pub execute : ℕ → Below
  execute zero U x outer s = (Some [], [])
  execute (suc d) U x outer s = groups_made (execute d) U x outer (w.groups U s)
