-- What execution makes has no more nodes than what is selected can have: one induction over answers, groups and depth.
use Rattle.std.proofs.Common.{rules, arith, ◌≡◌, ℕ, zero, suc, ◌+◌, ◌*◌, ◌≤◌, Bool, true, false, cond, List, [], ◌∷◌, ◌++◌, map, Option, Some, None, refl, sym, ap, ap₂, ◌∙◌, subst, inl, inr, option_map, unwrap_or, mul-le-mul_right, suc-mul}
use Rattle.std.specs.List.{AllByRecursion}
use Rattle.std.specs.Map.{lookup}
use Rattle.std.specs.Option.{option_map_or}
use Rattle.std.specs.Str.{bytes_eq}
use Rattle.jb_tree.specs.Value.{array_items, object_members}
use Rattle.jb_tree.specs.declared.value.Value.{Value, the_lemmas}
use Rattle.jb_tree.specs.declared.value.Value.TheVariants as json
use Rattle.gql_ast_base.specs.TypeParts.{is_non_null}
use Rattle.gql_ast_base.specs.declared.type_ref.TypeRef.{TypeRef}
use Rattle.gql_collect.specs.Sizes.{added}
use Rattle.gql_collect.proofs.Keys.{text-same, text-itself}
use Rattle.gql_resolvers.specs.Depth.{AllGroups}
use Rattle.gql_resolvers.specs.Execute.{Made, Member, then_rest_of, keyed, with_key, one_array, settled_by, settled, unless_misfit, Below, object_made, value_made, items_made, field_made, groups_made, execute}
use Rattle.gql_resolvers.specs.Lists.{is_list}
use Rattle.gql_resolvers.specs.Reached.{IsAmong, items_of, fields_of, fields_if, Reaches, at_root, at_inside}
use Rattle.gql_resolvers.specs.Resolved.{Meaning, Meanings, gives_leaf, gives_object, gives_list, gives_skip, fails_with, no_answer, answer_then}
use Rattle.gql_resolvers.specs.Resolved.{Misfit, Outcome, answered, refused}
use Rattle.gql_resolvers.specs.Spot.{Spot, trail, item_spot, field_spot}
use Rattle.gql_resolvers.specs.Trail.{Trail}
use Rattle.gql_resolvers.specs.Types.{item_type}
use Rattle.gql_resolvers.specs.World.{World, key_of, DistinctKeys, IsLawful}
use Rattle.gql_cost.specs.Nodes.{is_skip, with_item, Inside, object_nodes, value_nodes, items_nodes, outcome_nodes, field_nodes, fields_nodes, nodes_to, nodes}
use Rattle.gql_cost.specs.Short.{count, AreShort}
use Rattle.gql_cost.specs.Size.{size}
use Rattle.gql_cost.proofs.Sizes.{size-list, size-name, size-one}

pub items-Array : (vs : List Value) → array_items (json.Array vs) ≡ Some vs
items-Array vs = search (rules, the_lemmas)

members-Object : (ms : List Member) → object_members (json.Object ms) ≡ Some ms
members-Object ms = search (rules, the_lemmas)

items-Null : array_items json.Null ≡ None
items-Null = search (rules, the_lemmas)

members-Null : object_members json.Null ≡ None
members-Null = search (rules, the_lemmas)

-- ---- lists that are made, part by part

mapped-some : {A B : Type 0} (f : A → B) (o : Option A) (y : B) → option_map f o ≡ Some y → (x : A) × (o ≡ Some x) × (y ≡ f x)
mapped-some f None y is = absurd (let e : None ≡ Some y = is in cc)
mapped-some f (Some x) y is = (x, refl, (let e : Some (f x) ≡ Some y = is in let s : f x ≡ y = cc in sym s))

front-some : {A : Type 0} (xs : List A) (o : Option (List A)) (all : List A) → (then_rest_of (Some xs) [] (o, [])).0 ≡ Some all
    → (ys : List A) × (o ≡ Some ys) × (all ≡ xs ++ ys)
front-some xs None all is = absurd (let e : None ≡ Some all = is in cc)
front-some xs (Some ys) all is = (ys, refl, (let e : Some (xs ++ ys) ≡ Some all = is in let s : xs ++ ys ≡ all = cc in sym s))

-- what is made first, and the rest
pub record Both {A : Type 0} (first : Option (List A)) (rest : Option (List A)) (all : List A) : Type 0 where
  pub xs : List A
  pub ys : List A
  pub front : first ≡ Some xs
  pub behind : rest ≡ Some ys
  pub is : all ≡ xs ++ ys

pub then-both : {A : Type 0} (first : Made A) (rest : Made A) (all : List A) → (then_rest_of first.0 first.1 rest).0 ≡ Some all → Both first.0 rest.0 all
then-both {A = A} first rest all is = by first.0 is
  where
    by : (o : Option (List A)) → (then_rest_of o first.1 rest).0 ≡ Some all → Both o rest.0 all
    by None e = absurd (let f : None ≡ Some all = e in cc)
    by (Some us) e = let found = front-some us rest.0 all e in record { xs = us; ys = found.0; front = refl; behind = found.1; is = found.2 }

-- ---- keys

apart : (a b : List ℕ) → ¬ (a ≡ b) → bytes_eq a b ≡ false
apart a b different = by (bytes_eq a b) refl
  where
    by : (e : Bool) → bytes_eq a b ≡ e → e ≡ false
    by true is = absurd (different (text-same a b is))
    by false is = refl

module _ {X T G S : Type 0} (w : World X T G S) (items : ℕ) (weight : S → ℕ) where
  -- what the value of a group's place can have at most
  abbrev pub field_size : T → G → ℕ
  field_size U g = size items (w.type_at U g) (weight (w.below g))

  -- what the groups of a selection can have is no more than it can
  abbrev pub HasRoom : T → S → Type 0
  HasRoom U s = added (map (field_size U) (w.groups U s)) ≤ weight s

  module _ (inside : Inside w) (g : G) where
    -- a value that is left out, or one of at most so many nodes
    abbrev pub One : Bool → Outcome X → List Value → ℕ → Type 0
    One true outcome vs k = vs ≡ []
    One false outcome vs k = (v : Value) × (vs ≡ v ∷ []) × (outcome_nodes w inside g outcome v ≤ k)

    items-none : (ms : Meanings X) → items_nodes w inside g ms [] ≡ 0
    items-none no_answer = refl
    items-none (answer_then m ms) = by (is_skip m) (items-none ms)
      where
        by : (b : Bool) → items_nodes w inside g ms [] ≡ 0 → with_item b (value_nodes w inside g m) (items_nodes w inside g ms) [] ≡ 0
        by true rest = rest
        by false rest = refl

    object-none : (x : X) (type : Option T) → object_nodes w inside g x type None ≡ 0
    object-none x None = refl
    object-none x (Some U) = refl

    -- null is one node, whatever was answered
    null-nodes : (m : Meaning X) → value_nodes w inside g m json.Null ≡ 1
    null-nodes (gives_leaf v) = refl
    null-nodes (gives_object x) = ap (λ o. suc (object_nodes w inside g x (w.type_of x) o)) members-Null ∙ ap suc (object-none x (w.type_of x))
    null-nodes (gives_list ms) = ap (λ o. suc (items_nodes w inside g ms (unwrap_or o []))) items-Null ∙ ap suc (items-none ms)
    null-nodes gives_skip = refl
    null-nodes (fails_with text) = refl

    null-outcome : (outcome : Outcome X) → outcome_nodes w inside g outcome json.Null ≡ 1
    null-outcome (answered m) = null-nodes m
    null-outcome (refused fault) = refl

    -- a null that is passed on is held where the type lets it
    settle : (b strict : Bool) (outcome : Outcome X) (found : Option (List Value)) (k : ℕ) → (b ≡ true → found ≡ Some []) → 1 ≤ k
        → ((vs : List Value) → found ≡ Some vs → One b outcome vs k) → (vs : List Value) → settled_by strict found ≡ Some vs → One b outcome vs k
    settle b strict outcome (Some us) k left low one vs is = one vs is
    settle true strict outcome None k left low one vs is = absurd (let e : None ≡ Some [] = left refl in cc)
    settle false false outcome None k left low one vs is =
        let same : json.Null ∷ [] ≡ vs = (let e : Some (json.Null ∷ []) ≡ Some vs = is in cc) in
        (json.Null, sym same, omega (arith, null-outcome outcome, low))
    settle false true outcome None k left low one vs is = absurd (let e : None ≡ Some vs = is in cc)

    -- one item, and those after it
    item-then : (b : Bool) (m : Meaning X) (ms : Meanings X) (xs ys : List Value) (k : ℕ) → One b (answered m) xs k → items_nodes w inside g ms ys ≤ count ms * k
        → with_item b (value_nodes w inside g m) (items_nodes w inside g ms) (xs ++ ys) ≤ suc (count ms) * k
    item-then true m ms xs ys k one rest =
        subst (λ us. items_nodes w inside g ms (us ++ ys) ≤ suc (count ms) * k) (sym one) (omega (arith, rest, suc-mul (count ms) k))
    item-then false m ms xs ys k one rest =
        subst (λ us. with_item false (value_nodes w inside g m) (items_nodes w inside g ms) (us ++ ys) ≤ suc (count ms) * k) (sym one.1)
        (omega (arith, one.2, rest, suc-mul (count ms) k))

  module _ (lawful : IsLawful w)
      (lists_at_lists : (ty : TypeRef) (ms : Meanings X) → w.misfit ty (gives_list ms) ≡ None → is_list ty ≡ true)
      (objects_elsewhere : (ty : TypeRef) (x : X) → w.misfit ty (gives_object x) ≡ None → is_list ty ≡ false)
      (skips_fit : (ty : TypeRef) → w.misfit ty gives_skip ≡ None)
      (root : T) (initial : X) (all : S)
      (short : AreShort items w root initial all)
      (roomy : (spot : Spot G) (x : X) (U : T) → Reaches w root initial all spot (answered (gives_object x)) → w.misfit spot.type (gives_object x) ≡ None
      → w.type_of x ≡ Some U → HasRoom U (w.below spot.group)) where
    abbrev IsReached : Spot G → Outcome X → Type 0
    IsReached = Reaches w root initial all

    -- the law of an executor
    abbrev Law : Below w → Inside w → S → Type 0
    Law run inside s =
        (U : T) (y : X) (outer : Trail) → HasRoom U s → ((spot : Spot G) (outcome : Outcome X) → IsAmong spot outcome (fields_of w U y outer (w.groups U s)) → IsReached spot outcome)
        → (members : List Member) → (run U y outer s).0 ≡ Some members → inside U y s members ≤ weight s

    module _ (run : Below w) (inside : Inside w) where
      abbrev most : Spot G → ℕ
      most spot = size items spot.type (weight (w.below spot.group))

      abbrev IsOne : Spot G → Meaning X → List Value → Type 0
      IsOne spot m vs = One inside spot.group (is_skip m) (answered m) vs (most spot)

      object-bound : (spot : Spot G) (x : X) (type : Option T) → w.type_of x ≡ type → Law run inside (w.below spot.group) → IsReached spot (answered (gives_object x))
          → w.misfit spot.type (gives_object x) ≡ None → (vs : List Value) → (object_made w run spot x type).0 ≡ Some vs → IsOne spot (gives_object x) vs
      object-bound spot x None typed law reached fits vs is = absurd (lawful.object_typed spot.type x fits typed)
      object-bound spot x (Some U) typed law reached fits vs is =
          let made = run U x (trail spot) (w.below spot.group) in
          let found = mapped-some (λ (ms : List Member). json.Object ms ∷ []) made.0 vs is in
          let nodes-are : value_nodes w inside spot.group (gives_object x) (json.Object found.0) ≡ suc (inside U x (w.below spot.group) found.0) =
          ap₂ (λ o m. suc (object_nodes w inside spot.group x o m)) typed (members-Object found.0) in
          let below =
          law U x (trail spot) (roomy spot x U reached fits typed)
          (λ it outcome h. at_inside spot (gives_object x) reached fits (subst (λ (o : Option T). IsAmong it outcome (fields_if w o x spot)) (sym typed) h)) found.0 found.1 in
          (json.Object found.0, found.2, omega (arith, nodes-are, below, size-name items (weight (w.below spot.group)) spot.type (objects_elsewhere spot.type x fits)))

      unless-bound : (spot : Spot G) (m : Meaning X) (fault : Option Misfit) (made : Made Value) → w.misfit spot.type m ≡ fault
          → (w.misfit spot.type m ≡ None → (vs : List Value) → made.0 ≡ Some vs → IsOne spot m vs)
          → (vs : List Value) → (unless_misfit w spot fault made).0 ≡ Some vs → IsOne spot m vs
      unless-bound spot m (Some fault) made misfits one vs is = absurd (let e : None ≡ Some vs = is in cc)
      unless-bound spot m None made misfits one vs is = one misfits vs is

      abbrev here : Spot G → Meaning X → Made Value
      here spot m = unless_misfit w spot (w.misfit spot.type m) (value_made w run spot m)

      skip-here : (spot : Spot G) (m : Meaning X) → is_skip m ≡ true → (here spot m).0 ≡ Some []
      skip-here spot gives_skip is = ap (λ o. (unless_misfit w spot o (Some [], [])).0) (skips_fit spot.type)
      skip-here spot (gives_leaf v) is = absurd (let e : false ≡ true = is in cc)
      skip-here spot (gives_object x) is = absurd (let e : false ≡ true = is in cc)
      skip-here spot (gives_list ms) is = absurd (let e : false ≡ true = is in cc)
      skip-here spot (fails_with text) is = absurd (let e : false ≡ true = is in cc)

      abbrev Values : Spot G → Meaning X → Type 0
      Values spot m = w.misfit spot.type m ≡ None → (vs : List Value) → (value_made w run spot m).0 ≡ Some vs → IsOne spot m vs

      completed-bound : (spot : Spot G) (m : Meaning X) → Values spot m → (vs : List Value) → (settled spot (here spot m)).0 ≡ Some vs → IsOne spot m vs
      completed-bound spot m one vs is =
          settle inside spot.group (is_skip m) (is_non_null spot.type) (answered m) (here spot m).0 (most spot) (skip-here spot m)
          (size-one items (weight (w.below spot.group)) spot.type)
          (unless-bound spot m (w.misfit spot.type m) (value_made w run spot m) refl one) vs is

      list-bound : (spot : Spot G) (ms : Meanings X) → IsReached spot (answered (gives_list ms)) → w.misfit spot.type (gives_list ms) ≡ None
          → ((us : List Value) → (items_made w run spot 0 ms).0 ≡ Some us → items_nodes w inside spot.group ms us ≤ count ms * size items (item_type spot.type) (weight (w.below spot.group)))
          → (vs : List Value) → (one_array (items_made w run spot 0 ms)).0 ≡ Some vs → IsOne spot (gives_list ms) vs
      list-bound spot ms reached fits items_are vs is =
          let k = size items (item_type spot.type) (weight (w.below spot.group)) in
          let found = mapped-some (λ (us : List Value). json.Array us ∷ []) (items_made w run spot 0 ms).0 vs is in
          let nodes-are : value_nodes w inside spot.group (gives_list ms) (json.Array found.0) ≡ suc (items_nodes w inside spot.group ms found.0) =
          ap (λ o. suc (items_nodes w inside spot.group ms (unwrap_or o []))) (items-Array found.0) in
          let few : count ms * k ≤ items * k = mul-le-mul_right k (short spot ms reached fits) in
          (json.Array found.0, found.2, omega (arith, nodes-are, items_are found.0 found.1, few, size-list items (weight (w.below spot.group)) spot.type (lists_at_lists spot.type ms fits)))

      mutual
        value-bound : (spot : Spot G) (m : Meaning X) → Law run inside (w.below spot.group) → IsReached spot (answered m) → Values spot m
        value-bound spot (gives_leaf v) law reached fits vs is =
            let same : v ∷ [] ≡ vs = (let e : Some (v ∷ []) ≡ Some vs = is in cc) in
            (v, sym same, size-one items (weight (w.below spot.group)) spot.type)
        value-bound spot (gives_object x) law reached fits vs is = object-bound spot x (w.type_of x) refl law reached fits vs is
        value-bound spot (gives_list ms) law reached fits vs is =
            list-bound spot ms reached fits (items-bound spot 0 ms law (λ it outcome h. at_inside spot (gives_list ms) reached fits h)) vs is
        value-bound spot gives_skip law reached fits vs is = let same : [] ≡ vs = (let e : Some [] ≡ Some vs = is in cc) in sym same
        value-bound spot (fails_with text) law reached fits vs is = absurd (lawful.failure_misfits spot.type text fits)

        items-bound : (list : Spot G) (i : ℕ) (ms : Meanings X) → Law run inside (w.below list.group)
            → ((spot : Spot G) (outcome : Outcome X) → IsAmong spot outcome (items_of list i ms) → IsReached spot outcome)
            → (vs : List Value) → (items_made w run list i ms).0 ≡ Some vs
            → items_nodes w inside list.group ms vs ≤ count ms * size items (item_type list.type) (weight (w.below list.group))
        items-bound list i no_answer law reached vs is = omega arith
        items-bound list i (answer_then m ms) law reached vs is =
            let it = item_spot list i in
            let k = size items (item_type list.type) (weight (w.below list.group)) in
            let parts = then-both (settled it (here it m)) (items_made w run list (i + 1) ms) vs is in
            let one = completed-bound it m (value-bound it m law (reached it (answered m) (inl (refl, refl)))) parts.xs parts.front in
            let rest = items-bound list (i + 1) ms law (λ spot outcome h. reached spot outcome (inr h)) parts.ys parts.behind in
            subst (λ us. items_nodes w inside list.group (answer_then m ms) us ≤ suc (count ms) * k) (sym parts.is)
            (item-then inside list.group (is_skip m) m ms parts.xs parts.ys k one rest)

      -- ---- fields

      abbrev is_left : Outcome X → Bool
      is_left (answered m) = is_skip m
      is_left (refused fault) = false

      outcome-bound : (U : T) (outer : Trail) (g : G) (outcome : Outcome X) → Law run inside (w.below g) → IsReached (field_spot w U outer g) outcome
          → (vs : List Value) → (field_made w run (field_spot w U outer g) outcome).0 ≡ Some vs → One inside g (is_left outcome) outcome vs (field_size U g)
      outcome-bound U outer g (answered m) law reached vs is =
          let spot = field_spot w U outer g in
          completed-bound spot m (value-bound spot m law reached) vs is
      outcome-bound U outer g (refused fault) law reached vs is =
          let spot = field_spot w U outer g in
          settle inside g false (is_non_null spot.type) (refused fault) None (field_size U g) (λ e. absurd (let f : false ≡ true = e in cc))
          (size-one items (weight (w.below g)) (w.type_at U g)) (λ us e. absurd (let f : None ≡ Some us = e in cc)) vs is

      -- no other keys than those of the groups
      abbrev HasNoOther : List G → List Member → Type 0
      HasNoOther gs members = (k : List ℕ) → AllByRecursion (λ h. ¬ (k ≡ key_of w h)) gs → lookup (bytes_eq k) members ≡ None

      record AreBounded (U : T) (x : X) (gs : List G) (members : List Member) : Type 0 where
        pub fewer : fields_nodes w inside U x members gs ≤ added (map (field_size U) gs)
        pub no_other : HasNoOther gs members

      -- a member of another key changes nothing
      pass-over : (k q : List ℕ) (v : Value) (ys : List Member) → ¬ (q ≡ k) → lookup (bytes_eq q) ((k, v) ∷ ys) ≡ lookup (bytes_eq q) ys
      pass-over k q v ys different = ap (λ b. cond b (Some v) (lookup (bytes_eq q) ys)) (apart q k different)

      same-nodes : (U : T) (x : X) (gs : List G) (k : List ℕ) (v : Value) (ys : List Member) → AllByRecursion (λ h. ¬ (k ≡ key_of w h)) gs
          → fields_nodes w inside U x ((k, v) ∷ ys) gs ≡ fields_nodes w inside U x ys gs
      same-nodes U x [] k v ys different = refl
      same-nodes U x (h ∷ hs) k v ys different =
          ap₂ (λ a b. a + b)
          (ap (λ o. option_map_or (λ u. outcome_nodes w inside h (w.asks U x h) u) o 0) (pass-over k (key_of w h) v ys (λ e. different.0 (sym e))))
          (same-nodes U x hs k v ys different.1)

      here-found : (k : List ℕ) (v : Value) (ys : List Member) → lookup (bytes_eq k) ((k, v) ∷ ys) ≡ Some v
      here-found k v ys = ap (λ b. cond b (Some v) (lookup (bytes_eq k) ys)) (text-itself k)

      group-then : (b : Bool) (U : T) (x : X) (g : G) (gs : List G) (vs : List Value) (ys : List Member) → AllByRecursion (λ h. ¬ (key_of w g ≡ key_of w h)) gs
          → One inside g b (w.asks U x g) vs (field_size U g) → AreBounded U x gs ys → AreBounded U x (g ∷ gs) (keyed (key_of w g) vs ++ ys)
      group-then true U x g gs vs ys different one rest =
          subst (λ us. AreBounded U x (g ∷ gs) (keyed (key_of w g) us ++ ys)) (sym one) (record {
            fewer =
                let none : field_nodes w inside U x ys g ≡ 0 =
                ap (λ o. option_map_or (λ u. outcome_nodes w inside g (w.asks U x g) u) o 0) (rest.no_other (key_of w g) different) in
                omega (arith, none, rest.fewer);
            no_other = λ k others. rest.no_other k others.1;
          })
      group-then false U x g gs vs ys different one rest =
          subst (λ us. AreBounded U x (g ∷ gs) (keyed (key_of w g) us ++ ys)) (sym one.1) (record {
            fewer =
                let first : field_nodes w inside U x ((key_of w g, one.0) ∷ ys) g ≡ outcome_nodes w inside g (w.asks U x g) one.0 =
                ap (λ o. option_map_or (λ u. outcome_nodes w inside g (w.asks U x g) u) o 0) (here-found (key_of w g) one.0 ys) in
                omega (arith, first, one.2, same-nodes U x gs (key_of w g) one.0 ys different, rest.fewer);
            no_other = λ k others. pass-over (key_of w g) k one.0 ys others.0 ∙ rest.no_other k others.1;
          })

      groups-bound : (U : T) (x : X) (outer : Trail) (gs : List G) → DistinctKeys w gs → AllGroups w (λ g. Law run inside (w.below g)) gs
          → ((spot : Spot G) (outcome : Outcome X) → IsAmong spot outcome (fields_of w U x outer gs) → IsReached spot outcome)
          → (members : List Member) → (groups_made w run U x outer gs).0 ≡ Some members → AreBounded U x gs members
      groups-bound U x outer [] distinct laws reached members is =
          let same : [] ≡ members = (let e : Some [] ≡ Some members = is in cc) in
          subst (AreBounded U x []) same (record { fewer = omega arith; no_other = λ k others. refl })
      groups-bound U x outer (g ∷ gs) distinct laws reached members is =
          let spot = field_spot w U outer g in
          let made = field_made w run spot (w.asks U x g) in
          let parts = then-both (with_key (key_of w g) made) (groups_made w run U x outer gs) members is in
          let found = mapped-some (λ (us : List Value). keyed (key_of w g) us) made.0 parts.xs parts.front in
          let one = outcome-bound U outer g (w.asks U x g) laws.0 (reached spot (w.asks U x g) (inl (refl, refl))) found.0 found.1 in
          let rest = groups-bound U x outer gs distinct.1 laws.1 (λ it outcome h. reached it outcome (inr h)) parts.ys parts.behind in
          subst (AreBounded U x (g ∷ gs)) (ap (λ us. us ++ parts.ys) (sym found.2) ∙ sym parts.is)
          (group-then (is_left (w.asks U x g)) U x g gs found.0 parts.ys distinct.0 one rest)

    each-law : (P : G → Type 0) (gs : List G) → ((g : G) → P g) → AllGroups w P gs
    each-law P [] f = tt
    each-law P (g ∷ gs) f = (f g, each-law P gs f)

    bound-execute : (d : ℕ) (s : S) → Law (execute w d) (nodes_to w d) s
    bound-execute zero s U y outer room reached members is = omega arith
    bound-execute (suc d) s U y outer room reached members is =
        let bounded = groups-bound (execute w d) (nodes_to w d) U y outer (w.groups U s) (lawful.distinct_keys U s)
        (each-law (λ g. Law (execute w d) (nodes_to w d) (w.below g)) (w.groups U s) (λ g. bound-execute d (w.below g))) reached members is in
        omega (arith, bounded.fewer, room)

    pub nodes-bounded : (d : ℕ) → HasRoom root all → nodes w d root initial all (execute w d root initial [] all).0 ≤ 1 + weight all
    nodes-bounded d room = by (execute w d root initial [] all).0 refl
      where
        by : (found : Option (List Member)) → (execute w d root initial [] all).0 ≡ found → nodes w d root initial all found ≤ 1 + weight all
        by None is = omega arith
        by (Some members) is = omega (arith, bound-execute d all root initial [] room (λ spot outcome h. at_root h) members is)
