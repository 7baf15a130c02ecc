-- Each error that execution lists is a true fault.
use Rattle.std.proofs.Common.{◌≡◌, ℕ, zero, suc, ◌+◌, List, [], ◌∷◌, ◌++◌, Option, Some, None, refl, sym, subst, ap, inl, inr}
use Rattle.std.specs.List.{AllByRecursion}
use Rattle.jb_tree.specs.declared.value.Value.{Value}
use Rattle.gql_response.specs.declared.graphql_error.GraphQLError.{GraphQLError}
use Rattle.gql_resolvers.specs.Resolved.{Meaning, Meanings, gives_leaf, gives_object, gives_list, gives_skip, fails_with, no_answer, answer_then}
use Rattle.gql_resolvers.specs.Resolved.{Misfit, Outcome, answered, refused}
use Rattle.gql_resolvers.specs.World.{World}
use Rattle.gql_resolvers.specs.Trail.{Trail, held}
use Rattle.gql_resolvers.specs.Spot.{Spot, trail, item_spot, field_spot}
use Rattle.gql_resolvers.specs.Fault.{told_at, placed}
use Rattle.gql_resolvers.specs.Reached.{IsAmong, items_of, fields_of, fields_if, Reaches, at_root, at_inside}
use Rattle.gql_resolvers.specs.Execute.{Made, then_rest_of, settled, unless_misfit}
use Rattle.gql_resolvers.specs.Execute.{Below, object_made, value_made, items_made, field_made, groups_made, execute}
use Rattle.gql_resolvers.specs.Explained.{IsFault}

all_joined : {X : Type 0} (P : X → Type 0) (xs ys : List X) → AllByRecursion P xs → AllByRecursion P ys → AllByRecursion P (xs ++ ys)
all_joined P [] ys p q = q
all_joined P (x ∷ xs) ys p q = (p.0, all_joined P xs ys p.1 q)

module _ {X T G S : Type 0} (w : World X T G S) (root : T) (initial : X) (all : S) where
  abbrev pub IsTrue : GraphQLError → Type 0
  IsTrue error = (at : Option Trail) × IsFault w root initial all error at

  abbrev IsReached : Spot G → Outcome X → Type 0
  IsReached = Reaches w root initial all

  true_then : {A : Type 0} (first : Option (List A)) (es : List GraphQLError) (rest : Made A) → AllByRecursion IsTrue es → AllByRecursion IsTrue rest.1
      → AllByRecursion IsTrue (then_rest_of first es rest).1
  true_then None es rest p q = p
  true_then (Some xs) es rest p q = all_joined IsTrue es rest.1 p q

  true_unless : (spot : Spot G) (m : Meaning X) (fault : Option Misfit) (made : Made Value) → w.misfit spot.type m ≡ fault → IsReached spot (answered m)
      → (w.misfit spot.type m ≡ None → AllByRecursion IsTrue made.1) → AllByRecursion IsTrue (unless_misfit w spot fault made).1
  true_unless spot m (Some misfit) made misfits reached others = (
    (
      held (trail spot),
      record { spot = spot; outcome = answered m; reached = reached; fault = told_at (w.span_of spot.group) misfit; told = ap (placed (w.span_of spot.group)) misfits; is = refl; holds = refl },
    ),
    tt,
  )
  true_unless spot m None made misfits reached others = others misfits

  abbrev Law : Below w → S → Type 0
  Law run s = (U : T) (y : X) (outer : Trail) → ((spot : Spot G) (outcome : Outcome X) → IsAmong spot outcome (fields_of w U y outer (w.groups U s)) → IsReached spot outcome)
      → AllByRecursion IsTrue (run U y outer s).1

  module _ (run : Below w) where
    true_object : (spot : Spot G) (x : X) (type : Option T) → w.type_of x ≡ type → Law run (w.below spot.group) → IsReached spot (answered (gives_object x))
        → w.misfit spot.type (gives_object x) ≡ None → AllByRecursion IsTrue (object_made w run spot x type).1
    true_object spot x None typed law reached fits = tt
    true_object spot x (Some U) typed law reached fits =
        law U x (trail spot) (λ it outcome h. at_inside spot (gives_object x) reached fits (subst (λ (o : Option T). IsAmong it outcome (fields_if w o x spot)) (sym typed) h))

    mutual
      true_value : (spot : Spot G) (m : Meaning X) → Law run (w.below spot.group) → IsReached spot (answered m)
          → w.misfit spot.type m ≡ None → AllByRecursion IsTrue (value_made w run spot m).1
      true_value spot (gives_leaf v) law reached fits = tt
      true_value spot (gives_object x) law reached fits = true_object spot x (w.type_of x) refl law reached fits
      true_value spot (gives_list ms) law reached fits = true_items spot 0 ms law (λ it outcome h. at_inside spot (gives_list ms) reached fits h)
      true_value spot gives_skip law reached fits = tt
      true_value spot (fails_with text) law reached fits = tt

      true_items : (list : Spot G) (i : ℕ) (ms : Meanings X) → Law run (w.below list.group)
          → ((spot : Spot G) (outcome : Outcome X) → IsAmong spot outcome (items_of list i ms) → IsReached spot outcome)
          → AllByRecursion IsTrue (items_made w run list i ms).1
      true_items list i no_answer law reached = tt
      true_items list i (answer_then m ms) law reached =
          let it = item_spot list i in
          let made = unless_misfit w it (w.misfit it.type m) (value_made w run it m) in
          let here = reached it (answered m) (inl (refl, refl)) in
          true_then (settled it made).0 made.1 (items_made w run list (i + 1) ms)
          (true_unless it m (w.misfit it.type m) (value_made w run it m) refl here (λ fits. true_value it m law here fits))
          (true_items list (i + 1) ms law (λ spot outcome h. reached spot outcome (inr h)))

    true_field : (U : T) (outer : Trail) (g : G) (outcome : Outcome X) → Law run (w.below g) → IsReached (field_spot w U outer g) outcome
        → AllByRecursion IsTrue (field_made w run (field_spot w U outer g) outcome).1
    true_field U outer g (answered m) law reached =
        let spot = field_spot w U outer g in
        true_unless spot m (w.misfit spot.type m) (value_made w run spot m) refl reached (λ fits. true_value spot m law reached fits)
    true_field U outer g (refused fault) law reached =
        let spot = field_spot w U outer g in
        ((held (trail spot), record { spot = spot; outcome = refused fault; reached = reached; fault = fault; told = refl; is = refl; holds = refl }), tt)

    true_groups : (U : T) (x : X) (outer : Trail) (gs : List G) → ((g : G) → Law run (w.below g))
        → ((spot : Spot G) (outcome : Outcome X) → IsAmong spot outcome (fields_of w U x outer gs) → IsReached spot outcome)
        → AllByRecursion IsTrue (groups_made w run U x outer gs).1
    true_groups U x outer [] laws reached = tt
    true_groups U x outer (g ∷ gs) laws reached =
        true_then _ (field_made w run (field_spot w U outer g) (w.asks U x g)).1 (groups_made w run U x outer gs)
        (true_field U outer g (w.asks U x g) (laws g) (reached (field_spot w U outer g) (w.asks U x g) (inl (refl, refl))))
        (true_groups U x outer gs laws (λ spot outcome h. reached spot outcome (inr h)))

  true_execute : (d : ℕ) (s : S) → Law (execute w d) s
  true_execute zero s U y outer reached = tt
  true_execute (suc d) s U y outer reached = true_groups (execute w d) U y outer (w.groups U s) (λ g. true_execute d (w.below g)) reached

  pub true_faults : (d : ℕ) → AllByRecursion IsTrue (execute w d root initial [] all).1
  true_faults d = true_execute d all root initial [] (λ spot outcome h. at_root h)
