-- The paths of the errors that execution lists are distinct.
use Rattle.std.proofs.Common.{◌≡◌, ℕ, zero, suc, ◌+◌, ◌≤◌, List, [], ◌∷◌, ◌++◌, Option, Some, None, refl, sym, ap, ◌∙◌, inl, inr, ◌⊎◌, append_assoc, arith}
use Rattle.std.specs.List.{AllByRecursion}
use Rattle.jb_tree.specs.declared.value.Value.{Value}
use Rattle.gql_response.specs.declared.graphql_error.GraphQLError.{GraphQLError}
use Rattle.gql_response.specs.declared.path.ResponseDataPathSegment.TheVariants.{Field, ListIndex}
use Rattle.gql_response.specs.Held.{unplaced_segment}
use Rattle.gql_resolvers.proofs.Steps.{index_of, text_of, map_joined}
use Rattle.gql_resolvers.specs.Resolved.{Meaning, Meanings, gives_leaf, gives_object, gives_list, gives_skip, fails_with, no_answer, answer_then}
use Rattle.gql_resolvers.specs.Resolved.{Misfit, Fault, Outcome, answered, refused}
use Rattle.gql_resolvers.specs.World.{World, key_of, DistinctKeys}
use Rattle.gql_resolvers.specs.Trail.{Segment, Trail, path_of, shown}
use Rattle.gql_resolvers.specs.Spot.{Spot, trail, item_spot, field_spot}
use Rattle.gql_resolvers.specs.Fault.{told_at, fault_error}
use Rattle.gql_resolvers.specs.Execute.{Made, then_rest_of, settled, unless_misfit}
use Rattle.gql_resolvers.specs.Execute.{Below, object_made, value_made, items_made, field_made, groups_made, execute}
use Rattle.gql_resolvers.specs.Distinct.{IsApart, DistinctPaths}

cancel : {A : Type 0} (p xs ys : List A) → p ++ xs ≡ p ++ ys → xs ≡ ys
cancel [] xs ys e = e
cancel (x ∷ p) xs ys e = let t : p ++ xs ≡ p ++ ys = cc in cancel p xs ys t

all_joined : {X : Type 0} (P : X → Type 0) (xs ys : List X) → AllByRecursion P xs → AllByRecursion P ys → AllByRecursion P (xs ++ ys)
all_joined P [] ys p q = q
all_joined P (x ∷ xs) ys p q = (p.0, all_joined P xs ys p.1 q)

distinct_joined : (xs ys : List GraphQLError) → DistinctPaths xs → DistinctPaths ys → AllByRecursion (λ x. AllByRecursion (IsApart x) ys) xs → DistinctPaths (xs ++ ys)
distinct_joined [] ys p q c = q
distinct_joined (x ∷ xs) ys p q c = (all_joined (IsApart x) xs ys p.0 c.0, distinct_joined xs ys p.1 q c.1)

-- the error's path goes on from a trail, by one of these steps
abbrev pub BelowBy : Trail → (Segment → Type 0) → GraphQLError → Type 0
BelowBy t B e = (s : Segment) × B s × (q : List Segment) × (e.path ≡ path_of t ++ s ∷ q)

abbrev Separate : Trail → (Segment → Type 0) → List GraphQLError → Type 0
Separate t B es = AllByRecursion (BelowBy t B) es × DistinctPaths es

module _ (t : Trail) where
  weaker : (B D : Segment → Type 0) → ((s : Segment) → B s → D s) → (es : List GraphQLError) → AllByRecursion (BelowBy t B) es → AllByRecursion (BelowBy t D) es
  weaker B D f [] p = tt
  weaker B D f (e ∷ es) p = ((p.0.0, f p.0.0 p.0.1, p.0.2, p.0.3), weaker B D f es p.1)

  module _ (B C : Segment → Type 0) (apart : (s u : Segment) → B s → C u → unplaced_segment s ≡ unplaced_segment u → ⊥) where
    on_trail : (e : GraphQLError) (s : Segment) (q : List Segment) → e.path ≡ path_of t ++ s ∷ q → shown e.path ≡ shown (path_of t) ++ unplaced_segment s ∷ shown q
    on_trail e s q a = ap shown a ∙ map_joined unplaced_segment (path_of t) (s ∷ q)

    first_step : (e f : GraphQLError) (s u : Segment) (q r : List Segment) → e.path ≡ path_of t ++ s ∷ q → f.path ≡ path_of t ++ u ∷ r → shown e.path ≡ shown f.path
        → unplaced_segment s ≡ unplaced_segment u
    first_step e f s u q r a b same =
        let both : unplaced_segment s ∷ shown q ≡ unplaced_segment u ∷ shown r =
        cancel (shown (path_of t)) (unplaced_segment s ∷ shown q) (unplaced_segment u ∷ shown r) (sym (on_trail e s q a) ∙ same ∙ on_trail f u r b) in
        cc

    apart_one : (e : GraphQLError) → BelowBy t B e → (ys : List GraphQLError) → AllByRecursion (BelowBy t C) ys → AllByRecursion (IsApart e) ys
    apart_one e b [] q = tt
    apart_one e b (f ∷ ys) q = ((λ same. apart b.0 q.0.0 b.1 q.0.1 (first_step e f b.0 q.0.0 b.2 q.0.2 b.3 q.0.3 same)), apart_one e b ys q.1)

    apart_all : (xs ys : List GraphQLError) → AllByRecursion (BelowBy t B) xs → AllByRecursion (BelowBy t C) ys → AllByRecursion (λ x. AllByRecursion (IsApart x) ys) xs
    apart_all [] ys p q = tt
    apart_all (x ∷ xs) ys p q = (apart_one x p.0 ys q, apart_all xs ys p.1 q)

    separate_then : {A : Type 0} (D : Segment → Type 0) (first : Option (List A)) (es : List GraphQLError) (rest : Made A) → ((s : Segment) → B s → D s) → ((s : Segment) → C s → D s)
        → Separate t B es → Separate t C rest.1 → Separate t D (then_rest_of first es rest).1
    separate_then D None es rest f g p q = (weaker B D f es p.0, p.1)
    separate_then D (Some xs) es rest f g p q = (
      all_joined (BelowBy t D) es rest.1 (weaker B D f es p.0) (weaker C D g rest.1 q.0),
      distinct_joined es rest.1 p.1 q.1 (apart_all es rest.1 p.0 q.0),
    )

module _ {G : Type 0} (spot : Spot G) where
  abbrev pub IsOwnStep : Segment → Type 0
  IsOwnStep s = s ≡ spot.step

  own_error : {X T S : Type 0} (w : World X T G S) (fault : Fault) → Separate spot.around IsOwnStep (fault_error w spot fault ∷ [])
  own_error w fault = (((spot.step, refl, [], refl), tt), (tt, tt))

  outward_all : (B : Segment → Type 0) (es : List GraphQLError) → AllByRecursion (BelowBy (trail spot) B) es → AllByRecursion (BelowBy spot.around IsOwnStep) es
  outward_all B [] p = tt
  outward_all B (e ∷ es) p =
      ((spot.step, refl, p.0.0 ∷ p.0.2, p.0.3 ∙ append_assoc (path_of spot.around) (spot.step ∷ []) (p.0.0 ∷ p.0.2)), outward_all B es p.1)

  outward : (B : Segment → Type 0) (es : List GraphQLError) → Separate (trail spot) B es → Separate spot.around IsOwnStep es
  outward B es p = (outward_all B es p.0, p.1)

abbrev IsItemFrom : ℕ → Segment → Type 0
IsItemFrom i s = (j : ℕ) × (i ≤ j) × (s ≡ ListIndex j)

items_apart : (i : ℕ) (s u : Segment) → s ≡ ListIndex i → IsItemFrom (i + 1) u → unplaced_segment s ≡ unplaced_segment u → ⊥
items_apart i s u a b same =
    let n : i ≡ b.0 = ap (λ (z : Segment). index_of (unplaced_segment z)) (sym a) ∙ ap index_of same ∙ ap (λ (z : Segment). index_of (unplaced_segment z)) b.2 in
    omega (arith, b.1, n)

module _ {X T G S : Type 0} (w : World X T G S) (keys : (U : T) (s : S) → DistinctKeys w (w.groups U s)) where
  abbrev IsKeyOf : List G → Segment → Type 0
  IsKeyOf [] s = ⊥
  IsKeyOf (g ∷ gs) s = (s ≡ Field (w.name_of g)) ⊎ IsKeyOf gs s

  keys_apart : (g : G) (gs : List G) → AllByRecursion (λ h. ¬ (key_of w g ≡ key_of w h)) gs → (s u : Segment) → s ≡ Field (w.name_of g) → IsKeyOf gs u
      → unplaced_segment s ≡ unplaced_segment u → ⊥
  keys_apart g [] distinct s u a b same = absurd b
  keys_apart g (h ∷ gs) distinct s u a (inl b) same =
      distinct.0 (ap (λ (z : Segment). text_of (unplaced_segment z)) (sym a) ∙ ap text_of same ∙ ap (λ (z : Segment). text_of (unplaced_segment z)) b)
  keys_apart g (h ∷ gs) distinct s u a (inr b) same = keys_apart g gs distinct.1 s u a b same

  abbrev Law : Below w → S → Type 0
  Law run s = (U : T) (y : X) (outer : Trail) → Separate outer (IsKeyOf (w.groups U s)) (run U y outer s).1

  separate_unless : (spot : Spot G) (fault : Option Misfit) (made : Made Value) → Separate spot.around (IsOwnStep spot) made.1
      → Separate spot.around (IsOwnStep spot) (unless_misfit w spot fault made).1
  separate_unless spot (Some misfit) made p = own_error spot w (told_at (w.span_of spot.group) misfit)
  separate_unless spot None made p = p

  module _ (run : Below w) where
    separate_object : (spot : Spot G) (x : X) (type : Option T) → Law run (w.below spot.group) → Separate spot.around (IsOwnStep spot) (object_made w run spot x type).1
    separate_object spot x None law = (tt, tt)
    separate_object spot x (Some U) law = outward spot (IsKeyOf (w.groups U (w.below spot.group))) _ (law U x (trail spot))

    mutual
      separate_value : (spot : Spot G) (m : Meaning X) → Law run (w.below spot.group) → Separate spot.around (IsOwnStep spot) (value_made w run spot m).1
      separate_value spot (gives_leaf v) law = (tt, tt)
      separate_value spot (gives_object x) law = separate_object spot x (w.type_of x) law
      separate_value spot (gives_list ms) law = outward spot (IsItemFrom 0) _ (separate_items spot 0 ms law)
      separate_value spot gives_skip law = (tt, tt)
      separate_value spot (fails_with text) law = (tt, tt)

      separate_items : (list : Spot G) (i : ℕ) (ms : Meanings X) → Law run (w.below list.group) → Separate (trail list) (IsItemFrom i) (items_made w run list i ms).1
      separate_items list i no_answer law = (tt, tt)
      separate_items list i (answer_then m ms) law =
          let it = item_spot list i in
          let made = unless_misfit w it (w.misfit it.type m) (value_made w run it m) in
          separate_then (trail list) (IsOwnStep it) (IsItemFrom (i + 1)) (λ s u a b same. items_apart i s u a b same) (IsItemFrom i)
          (settled it made).0 made.1 (items_made w run list (i + 1) ms)
          (λ s a. (i, omega arith, a))
          (λ s b. (b.0, omega (arith, b.1), b.2))
          (separate_unless it (w.misfit it.type m) (value_made w run it m) (separate_value it m law))
          (separate_items list (i + 1) ms law)

    pub separate_field : (U : T) (outer : Trail) (g : G) (outcome : Outcome X) → Law run (w.below g)
        → Separate outer (IsOwnStep (field_spot w U outer g)) (field_made w run (field_spot w U outer g) outcome).1
    separate_field U outer g (answered m) law =
        let spot = field_spot w U outer g in
        separate_unless spot (w.misfit spot.type m) (value_made w run spot m) (separate_value spot m law)
    separate_field U outer g (refused fault) law = own_error (field_spot w U outer g) w fault

    separate_groups : (U : T) (x : X) (outer : Trail) (gs : List G) → ((g : G) → Law run (w.below g)) → DistinctKeys w gs
        → Separate outer (IsKeyOf gs) (groups_made w run U x outer gs).1
    separate_groups U x outer [] laws distinct = (tt, tt)
    separate_groups U x outer (g ∷ gs) laws distinct =
        separate_then outer (IsOwnStep (field_spot w U outer g)) (IsKeyOf gs) (λ s u a b same. keys_apart g gs distinct.0 s u a b same) (IsKeyOf (g ∷ gs))
        _ (field_made w run (field_spot w U outer g) (w.asks U x g)).1 (groups_made w run U x outer gs)
        (λ s a. inl a) (λ s b. inr b)
        (separate_field U outer g (w.asks U x g) (laws g))
        (separate_groups U x outer gs laws distinct.1)

  pub separate_execute : (d : ℕ) (s : S) → Law (execute w d) s
  separate_execute zero s U y outer = (tt, tt)
  separate_execute (suc d) s U y outer = separate_groups (execute w d) U y outer (w.groups U s) (λ g. separate_execute d (w.below g)) (keys U s)

  pub distinct_paths : (d : ℕ) (root : T) (initial : X) (all : S) → DistinctPaths (execute w d root initial [] all).1
  distinct_paths d root initial all = (separate_execute d all root initial []).1
