-- A deeper run gives the same, once nothing is cut off.
use Rattle.std.proofs.Common.{◌≡◌, ℕ, zero, suc, ◌+◌, List, [], ◌∷◌, Option, Some, None, refl, ap, ◌∙◌}
use Rattle.jb_tree.specs.declared.value.Value.{Value}
use Rattle.gql_resolvers.specs.Resolved.{Meaning, Meanings, gives_leaf, gives_object, gives_list, gives_skip, fails_with, no_answer, answer_then}
use Rattle.gql_resolvers.specs.Resolved.{Outcome, answered, refused}
use Rattle.gql_resolvers.specs.World.{World, key_of}
use Rattle.gql_resolvers.specs.Trail.{Trail}
use Rattle.gql_resolvers.specs.Spot.{Spot, trail, item_spot, field_spot}
use Rattle.gql_resolvers.specs.Execute.{Made, Member, then_rest, settled, unless_misfit}
use Rattle.gql_resolvers.specs.Execute.{one_array, one_object, with_key, Below, object_made, value_made, items_made, field_made, groups_made, execute}
use Rattle.gql_resolvers.specs.Depth.{AllGroups, Suffices}

module _ {X T G S : Type 0} (w : World X T G S) where
  abbrev SameOn : Below w → Below w → S → Type 0
  SameOn run other s = (U : T) (y : X) (outer : Trail) → run U y outer s ≡ other U y outer s

  module _ (run other : Below w) where
    same_object : (spot : Spot G) (x : X) (type : Option T) → SameOn run other (w.below spot.group) → object_made w run spot x type ≡ object_made w other spot x type
    same_object spot x None same = refl
    same_object spot x (Some U) same = ap (one_object) (same U x (trail spot))

    mutual
      same_value : (spot : Spot G) (m : Meaning X) → SameOn run other (w.below spot.group) → value_made w run spot m ≡ value_made w other spot m
      same_value spot (gives_leaf v) same = refl
      same_value spot (gives_object x) same = same_object spot x (w.type_of x) same
      same_value spot (gives_list ms) same = ap (one_array) (same_items spot 0 ms same)
      same_value spot gives_skip same = refl
      same_value spot (fails_with text) same = refl

      same_items : (list : Spot G) (i : ℕ) (ms : Meanings X) → SameOn run other (w.below list.group) → items_made w run list i ms ≡ items_made w other list i ms
      same_items list i no_answer same = refl
      same_items list i (answer_then m ms) same =
          let it = item_spot list i in
          ap (λ (v : Made Value). then_rest (settled it (unless_misfit w it (w.misfit it.type m) v)) (items_made w run list (i + 1) ms)) (same_value it m same)
          ∙ ap (λ (r : Made Value). then_rest (settled it (unless_misfit w it (w.misfit it.type m) (value_made w other it m))) r) (same_items list (i + 1) ms same)

    same_field : (spot : Spot G) (outcome : Outcome X) → SameOn run other (w.below spot.group) → field_made w run spot outcome ≡ field_made w other spot outcome
    same_field spot (answered m) same = ap (λ (v : Made Value). settled spot (unless_misfit w spot (w.misfit spot.type m) v)) (same_value spot m same)
    same_field spot (refused fault) same = refl

    same_groups : (U : T) (x : X) (outer : Trail) (gs : List G) → AllGroups w (λ g. SameOn run other (w.below g)) gs → groups_made w run U x outer gs ≡ groups_made w other U x outer gs
    same_groups U x outer [] same = refl
    same_groups U x outer (g ∷ gs) same =
        ap (λ (v : Made Value). then_rest (with_key (key_of w g) v) (groups_made w run U x outer gs)) (same_field (field_spot w U outer g) (w.asks U x g) same.0)
        ∙ ap (λ (r : Made Member). then_rest (with_key (key_of w g) (field_made w other (field_spot w U outer g) (w.asks U x g))) r) (same_groups U x outer gs same.1)

  all_groups : (P Q : G → Type 0) (gs : List G) → ((g : G) → P g → Q g) → AllGroups w P gs → AllGroups w Q gs
  all_groups P Q [] f p = tt
  all_groups P Q (g ∷ gs) f p = (f g p.0, all_groups P Q gs f p.1)

  pub deeper : (d : ℕ) (U : T) (s : S) → Suffices w d U s → (y : X) (outer : Trail) → execute w (suc d) U y outer s ≡ execute w d U y outer s
  deeper zero U s enough y outer = ap (λ (gs : List G). groups_made w (execute w zero) U y outer gs) enough
  deeper (suc d) U s enough y outer =
      same_groups (execute w (suc d)) (execute w d) U y outer (w.groups U s)
      (all_groups (λ g. (W : T) → Suffices w d W (w.below g)) (λ g. SameOn (execute w (suc d)) (execute w d) (w.below g)) (w.groups U s) (λ g h W. deeper d W (w.below g) (h W)) enough)
