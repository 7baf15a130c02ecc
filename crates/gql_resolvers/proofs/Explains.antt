-- What execution makes is explained: one induction over answers, groups and depth, with the listed errors held fixed.
use Rattle.std.proofs.Common.{◌≡◌, ℕ, zero, suc, ◌+◌, List, [], ◌∷◌, ◌++◌, Option, Some, None, Bool, true, false, if◌then◌else◌, refl, sym, subst, ap, inl, inr}
use Rattle.std.specs.List.{AllByRecursion}
use Rattle.jb_tree.specs.declared.value.Value.{Value}
use Rattle.jb_tree.specs.declared.value.Value.TheVariants as json
use Rattle.gql_ast_base.specs.declared.type_ref.TypeRef.{TypeRef}
use Rattle.gql_response.specs.declared.graphql_error.GraphQLError.{GraphQLError}
use Rattle.gql_ast_base.specs.TypeParts.{is_non_null}
use Rattle.gql_resolvers.specs.Resolved.{Meaning, Meanings, gives_leaf, gives_object, gives_list, gives_skip, fails_with, no_answer, answer_then}
use Rattle.gql_resolvers.specs.Resolved.{Misfit, Outcome, answered, refused}
use Rattle.gql_resolvers.specs.World.{World, key_of}
use Rattle.gql_resolvers.specs.Trail.{Trail, held}
use Rattle.gql_resolvers.specs.Spot.{Spot, trail, item_spot, field_spot}
use Rattle.gql_resolvers.specs.Fault.{told_at, placed, fault_error}
use Rattle.gql_resolvers.specs.Reached.{IsAmong, items_of, fields_of, fields_if, inside, Reaches, at_root, at_inside}
use Rattle.gql_resolvers.specs.Execute.{Made, Member, then_rest_of, keyed, settled_by, unless_misfit}
use Rattle.gql_resolvers.specs.Execute.{one_array, one_object, with_key, Below, object_made, value_made, items_made, completed, field_made, groups_made, execute}
use Rattle.gql_resolvers.specs.Depth.{AllGroups, Suffices}
use Rattle.gql_resolvers.specs.Explained.{Holds, IsGood, ItemsAre, FieldsAre, null_held, leaf_kept, list_kept, object_kept}
use Rattle.gql_resolvers.specs.Explained.{no_item, item_good, no_field, field_good, IsExplainedBy}

module _ {X : Type 0} (P : X → Type 0) where
  pub all_first : (xs ys : List X) → AllByRecursion P (xs ++ ys) → AllByRecursion P xs
  all_first [] ys p = tt
  all_first (x ∷ xs) ys p = (p.0, all_first xs ys p.1)

  pub all_second : (xs ys : List X) → AllByRecursion P (xs ++ ys) → AllByRecursion P ys
  all_second [] ys p = p
  all_second (x ∷ xs) ys p = all_second xs ys p.1

module _ {X T G S : Type 0} (w : World X T G S)
    (failure_misfits : (ty : TypeRef) (text : List ℕ) → w.misfit ty (fails_with text) ≡ None → ⊥)
    (object_typed : (ty : TypeRef) (x : X) → w.misfit ty (gives_object x) ≡ None → w.type_of x ≡ None → ⊥)
    (root : T) (initial : X) (all : S)
    (no_skip : (spot : Spot G) → Reaches w root initial all spot (answered gives_skip) → ⊥)
    (L : GraphQLError → Type 0) where
  abbrev Good : Spot G → Outcome X → Value → Type 0
  Good = IsGood w root initial all L

  abbrev Escapes : Option Trail → Type 0
  Escapes at = Holds w root initial all L at

  abbrev IsReached : Spot G → Outcome X → Type 0
  IsReached = Reaches w root initial all

  -- what is told of what is made: it is as it should be, or the null that is passed on is that of a listed error held there
  abbrev Told : {A : Type 0} → Option Trail → Option (List A) → (List A → Type 0) → Type 0
  Told at None P = Escapes at
  Told at (Some xs) P = P xs

  abbrev IsOne : Spot G → Outcome X → List Value → Type 0
  IsOne spot outcome vs = (v : Value) × (vs ≡ v ∷ []) × Good spot outcome v

  told_settled : (strict : Bool) (spot : Spot G) (outcome : Outcome X) (vs : Option (List Value)) → is_non_null spot.type ≡ strict
      → Told (held (trail spot)) vs (IsOne spot outcome) → Told (held spot.around) (settled_by strict vs) (IsOne spot outcome)
  told_settled strict spot outcome (Some vs) e told = told
  told_settled false spot outcome None e told =
      (json.Null, refl, null_held (subst (λ (b : Bool). Escapes (if b then held spot.around else Some (trail spot))) e told))
  told_settled true spot outcome None e told =
      subst (λ (b : Bool). Escapes (if b then held spot.around else Some (trail spot))) e told

  told_unless : (spot : Spot G) (m : Meaning X) (fault : Option Misfit) (made : Made Value) → w.misfit spot.type m ≡ fault → IsReached spot (answered m)
      → (w.misfit spot.type m ≡ None → AllByRecursion L made.1 → Told (held (trail spot)) made.0 (IsOne spot (answered m)))
      → AllByRecursion L (unless_misfit w spot fault made).1 → Told (held (trail spot)) (unless_misfit w spot fault made).0 (IsOne spot (answered m))
  told_unless spot m (Some misfit) made misfits reached inside listed = (
    fault_error w spot (told_at (w.span_of spot.group) misfit),
    listed.0,
    record { spot = spot; outcome = answered m; reached = reached; fault = told_at (w.span_of spot.group) misfit; told = ap (placed (w.span_of spot.group)) misfits; is = refl; holds = refl },
  )
  told_unless spot m None made misfits reached inside listed = inside misfits listed

  -- the law of an executor, on an object type
  abbrev LawAt : Below w → T → S → Type 0
  LawAt run U s = (y : X) (outer : Trail) → ((spot : Spot G) (outcome : Outcome X) → IsAmong spot outcome (fields_of w U y outer (w.groups U s)) → IsReached spot outcome)
      → AllByRecursion L (run U y outer s).1 → Told (held outer) (run U y outer s).0 (FieldsAre w root initial all L U y outer (w.groups U s))

  abbrev Law : Below w → S → Type 0
  Law run s = (U : T) → LawAt run U s

  told_one_object : (spot : Spot G) (x : X) (U : T) (made : Option (List Member)) → w.misfit spot.type (gives_object x) ≡ None → w.type_of x ≡ Some U
      → Told (held (trail spot)) made (FieldsAre w root initial all L U x (trail spot) (w.groups U (w.below spot.group)))
      → Told (held (trail spot)) (one_object (made, [])).0 (IsOne spot (answered (gives_object x)))
  told_one_object spot x U None fits typed told = told
  told_one_object spot x U (Some members) fits typed told = (json.Object members, refl, object_kept U fits typed told)

  told_one_array : (spot : Spot G) (ms : Meanings X) (made : Option (List Value)) → w.misfit spot.type (gives_list ms) ≡ None
      → Told (held (trail spot)) made (ItemsAre w root initial all L spot 0 ms)
      → Told (held (trail spot)) (one_array (made, [])).0 (IsOne spot (answered (gives_list ms)))
  told_one_array spot ms None fits told = told
  told_one_array spot ms (Some vs) fits told = (json.Array vs, refl, list_kept fits told)

  told_object : (run : Below w) (spot : Spot G) (x : X) (type : Option T) → w.type_of x ≡ type → Law run (w.below spot.group) → IsReached spot (answered (gives_object x))
      → w.misfit spot.type (gives_object x) ≡ None → AllByRecursion L (object_made w run spot x type).1
      → Told (held (trail spot)) (object_made w run spot x type).0 (IsOne spot (answered (gives_object x)))
  told_object run spot x None typed law reached fits listed = absurd (object_typed spot.type x fits typed)
  told_object run spot x (Some U) typed law reached fits listed =
      told_one_object spot x U (run U x (trail spot) (w.below spot.group)).0 fits typed
      (law U x (trail spot) (λ it outcome h. at_inside spot (gives_object x) reached fits (subst (λ (o : Option T). IsAmong it outcome (fields_if w o x spot)) (sym typed) h)) listed)

  -- a list's items: one, and those after it
  told_front : (list : Spot G) (i : ℕ) (m : Meaning X) (ms : Meanings X) (vs : List Value) (rest : Made Value) → IsOne (item_spot list i) (answered m) vs
      → Told (held (trail list)) rest.0 (ItemsAre w root initial all L list (i + 1) ms)
      → Told (held (trail list)) (then_rest_of (Some vs) [] rest).0 (ItemsAre w root initial all L list i (answer_then m ms))
  told_front list i m ms vs (None, es) one told = told
  told_front list i m ms vs (Some us, es) one told =
      subst (λ (l : List Value). ItemsAre w root initial all L list i (answer_then m ms) (l ++ us)) (sym one.1) (item_good one.2 told)

  told_then : (list : Spot G) (i : ℕ) (m : Meaning X) (ms : Meanings X) (first : Option (List Value)) (es : List GraphQLError) (rest : Made Value)
      → (AllByRecursion L es → Told (held (trail list)) first (IsOne (item_spot list i) (answered m)))
      → (AllByRecursion L rest.1 → Told (held (trail list)) rest.0 (ItemsAre w root initial all L list (i + 1) ms))
      → AllByRecursion L (then_rest_of first es rest).1
      → Told (held (trail list)) (then_rest_of first es rest).0 (ItemsAre w root initial all L list i (answer_then m ms))
  told_then list i m ms None es rest one others listed = one listed
  told_then list i m ms (Some vs) es rest one others listed =
      told_front list i m ms vs rest (one (all_first L es rest.1 listed)) (others (all_second L es rest.1 listed))

  -- what is completed at a place
  told_completed : (run : Below w) (spot : Spot G) (m : Meaning X) → IsReached spot (answered m)
      → (w.misfit spot.type m ≡ None → AllByRecursion L (value_made w run spot m).1 → Told (held (trail spot)) (value_made w run spot m).0 (IsOne spot (answered m)))
      → AllByRecursion L (completed w run spot m).1 → Told (held spot.around) (completed w run spot m).0 (IsOne spot (answered m))
  told_completed run spot m reached inside listed =
      told_settled (is_non_null spot.type) spot (answered m) _ refl
      (told_unless spot m (w.misfit spot.type m) (value_made w run spot m) refl reached inside listed)

  module _ (run : Below w) where
    mutual
      told_value : (spot : Spot G) (m : Meaning X) → Law run (w.below spot.group) → IsReached spot (answered m)
          → w.misfit spot.type m ≡ None → AllByRecursion L (value_made w run spot m).1
          → Told (held (trail spot)) (value_made w run spot m).0 (IsOne spot (answered m))
      told_value spot (gives_leaf v) law reached fits listed = (v, refl, leaf_kept fits)
      told_value spot (gives_object x) law reached fits listed = told_object run spot x (w.type_of x) refl law reached fits listed
      told_value spot (gives_list ms) law reached fits listed =
          told_one_array spot ms (items_made w run spot 0 ms).0 fits (told_items spot 0 ms law (λ it outcome h. at_inside spot (gives_list ms) reached fits h) listed)
      told_value spot gives_skip law reached fits listed = absurd (no_skip spot reached)
      told_value spot (fails_with text) law reached fits listed = absurd (failure_misfits spot.type text fits)

      told_items : (list : Spot G) (i : ℕ) (ms : Meanings X) → Law run (w.below list.group)
          → ((spot : Spot G) (outcome : Outcome X) → IsAmong spot outcome (items_of list i ms) → IsReached spot outcome)
          → AllByRecursion L (items_made w run list i ms).1
          → Told (held (trail list)) (items_made w run list i ms).0 (ItemsAre w root initial all L list i ms)
      told_items list i no_answer law reached listed = no_item
      told_items list i (answer_then m ms) law reached listed =
          let it = item_spot list i in
          let here = reached it (answered m) (inl (refl, refl)) in
          told_then list i m ms (completed w run it m).0 (completed w run it m).1 (items_made w run list (i + 1) ms)
          (λ es. told_completed run it m here (λ fits. told_value it m law here fits) es)
          (λ es. told_items list (i + 1) ms law (λ spot outcome h. reached spot outcome (inr h)) es)
          listed

    told_field : (U : T) (outer : Trail) (g : G) (outcome : Outcome X) → Law run (w.below g) → IsReached (field_spot w U outer g) outcome
        → AllByRecursion L (field_made w run (field_spot w U outer g) outcome).1
        → Told (held outer) (field_made w run (field_spot w U outer g) outcome).0 (IsOne (field_spot w U outer g) outcome)
    told_field U outer g (answered m) law reached listed =
        told_completed run (field_spot w U outer g) m reached (λ fits. told_value (field_spot w U outer g) m law reached fits) listed
    told_field U outer g (refused fault) law reached listed =
        let spot = field_spot w U outer g in
        told_settled (is_non_null spot.type) spot (refused fault) None refl (
          fault_error w spot fault,
          listed.0,
          record { spot = spot; outcome = refused fault; reached = reached; fault = fault; told = refl; is = refl; holds = refl },
        )

    -- a group's pair, and those after it
    told_group_front : (U : T) (x : X) (outer : Trail) (g : G) (gs : List G) (vs : List Value) (rest : Made Member)
        → IsOne (field_spot w U outer g) (w.asks U x g) vs
        → Told (held outer) rest.0 (FieldsAre w root initial all L U x outer gs)
        → Told (held outer) (then_rest_of (Some (keyed (key_of w g) vs)) [] rest).0 (FieldsAre w root initial all L U x outer (g ∷ gs))
    told_group_front U x outer g gs vs (None, es) one told = told
    told_group_front U x outer g gs vs (Some ms, es) one told =
        subst (λ (l : List Value). FieldsAre w root initial all L U x outer (g ∷ gs) (keyed (key_of w g) l ++ ms)) (sym one.1)
        (field_good one.2 told)

    told_group : (U : T) (x : X) (outer : Trail) (g : G) (gs : List G) (made : Option (List Value)) (es : List GraphQLError) (rest : Made Member)
        → (AllByRecursion L es → Told (held outer) made (IsOne (field_spot w U outer g) (w.asks U x g)))
        → (AllByRecursion L rest.1 → Told (held outer) rest.0 (FieldsAre w root initial all L U x outer gs))
        → AllByRecursion L (then_rest_of (with_key (key_of w g) (made, es)).0 es rest).1
        → Told (held outer) (then_rest_of (with_key (key_of w g) (made, es)).0 es rest).0 (FieldsAre w root initial all L U x outer (g ∷ gs))
    told_group U x outer g gs None es rest one others listed = one listed
    told_group U x outer g gs (Some vs) es rest one others listed =
        told_group_front U x outer g gs vs rest (one (all_first L es rest.1 listed)) (others (all_second L es rest.1 listed))

    told_groups : (U : T) (x : X) (outer : Trail) (gs : List G) → AllGroups w (λ g. Law run (w.below g)) gs
        → ((spot : Spot G) (outcome : Outcome X) → IsAmong spot outcome (fields_of w U x outer gs) → IsReached spot outcome)
        → AllByRecursion L (groups_made w run U x outer gs).1
        → Told (held outer) (groups_made w run U x outer gs).0 (FieldsAre w root initial all L U x outer gs)
    told_groups U x outer [] laws reached listed = no_field
    told_groups U x outer (g ∷ gs) laws reached listed =
        let made = field_made w run (field_spot w U outer g) (w.asks U x g) in
        told_group U x outer g gs made.0 made.1 (groups_made w run U x outer gs)
        (λ es. told_field U outer g (w.asks U x g) laws.0 (reached (field_spot w U outer g) (w.asks U x g) (inl (refl, refl))) es)
        (λ es. told_groups U x outer gs laws.1 (λ spot outcome h. reached spot outcome (inr h)) es)
        listed

  all_laws : (P Q : G → Type 0) (gs : List G) → ((g : G) → P g → Q g) → AllGroups w P gs → AllGroups w Q gs
  all_laws P Q [] f p = tt
  all_laws P Q (g ∷ gs) f p = (f g p.0, all_laws P Q gs f p.1)

  pub told_execute : (d : ℕ) (U : T) (s : S) → Suffices w d U s → LawAt (execute w d) U s
  told_execute zero U s enough y outer reached listed =
      subst (λ (gs : List G). FieldsAre w root initial all L U y outer gs []) (sym enough) no_field
  told_execute (suc d) U s enough y outer reached listed =
      told_groups (execute w d) U y outer (w.groups U s)
      (all_laws (λ g. (W : T) → Suffices w d W (w.below g)) (λ g. Law (execute w d) (w.below g)) (w.groups U s) (λ g h W. told_execute d W (w.below g) (h W)) enough)
      reached listed

  -- what execution makes is explained by any errors that contain its own
  pub explained : (d : ℕ) → Suffices w d root all → AllByRecursion L (execute w d root initial [] all).1
      → IsExplainedBy w root initial all L (execute w d root initial [] all).0
  explained d enough listed = by_cases (execute w d root initial [] all).0
      (told_execute d root all enough initial [] (λ spot outcome h. at_root h) listed) where
        by_cases : (made : Option (List Member)) → Told (held []) made (FieldsAre w root initial all L root initial [] (w.groups root all)) → IsExplainedBy w root initial all L made
        by_cases None told = told
        by_cases (Some members) told = told
