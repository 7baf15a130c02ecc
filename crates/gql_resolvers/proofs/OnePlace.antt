-- One path belongs to one place at most.
use Rattle.std.proofs.Common.{◌≡◌, ℕ, ◌+◌, ◌≤◌, List, [], ◌∷◌, ◌++◌, map, Option, Some, None, refl, sym, subst, ap, ◌∙◌, inl, inr, ◌⊎◌, arith}
use Rattle.std.specs.List.{AllByRecursion}
use Rattle.gql_response.specs.Held.{unplaced_segment}
use Rattle.gql_response.specs.declared.path.ResponseDataPathSegment.TheVariants.{Field, ListIndex}
use Rattle.gql_resolvers.proofs.Steps.{index_of, text_of, map_joined}
use Rattle.gql_resolvers.proofs.Unique.{fields_around, inside_around, answered_same}
use Rattle.gql_resolvers.specs.Resolved.{Meaning, Meanings, gives_leaf, gives_object, gives_list, gives_skip, fails_with, no_answer, answer_then}
use Rattle.gql_resolvers.specs.Resolved.{Outcome, answered}
use Rattle.gql_resolvers.specs.World.{World, key_of, DistinctKeys, IsLawful}
use Rattle.gql_resolvers.specs.Trail.{Segment, Trail, path_of, shown}
use Rattle.gql_resolvers.specs.Spot.{Spot, trail, item_spot, field_spot}
use Rattle.gql_resolvers.specs.Reached.{Place, IsAmong, items_of, fields_of, fields_if, inside, Reaches, at_root, at_inside}

-- ---- the last of a list

no_end : {A : Type 0} (xs : List A) (x : A) → [] ≡ xs ++ x ∷ [] → ⊥
no_end [] x e = absurd cc
no_end (y ∷ xs) x e = absurd cc

end_split : {A : Type 0} (xs ys : List A) (x y : A) → xs ++ x ∷ [] ≡ ys ++ y ∷ [] → (xs ≡ ys) × (x ≡ y)
end_split [] [] x y e = let last : x ≡ y = cc in (refl, last)
end_split [] (z ∷ ys) x y e = let rest : [] ≡ ys ++ y ∷ [] = cc in absurd (no_end ys y rest)
end_split (z ∷ xs) [] x y e = let rest : [] ≡ xs ++ x ∷ [] = cc in absurd (no_end xs x rest)
end_split (z ∷ xs) (u ∷ ys) x y e =
    let first : z ≡ u = cc in
    let rest : xs ++ x ∷ [] ≡ ys ++ y ∷ [] = cc in
    let both = end_split xs ys x y rest in
    (ap (λ l. z ∷ l) both.0 ∙ ap (λ v. v ∷ ys) first, both.1)

-- ---- places whose last steps are shown differently

module _ {X G : Type 0} where
  abbrev IsOther : Segment → Place G X → Type 0
  IsOther step d = ¬ (unplaced_segment step ≡ unplaced_segment d.0.step)

  abbrev ShownApart : List (Place G X) → Type 0
  ShownApart [] = Unit {0}
  ShownApart (c ∷ cs) = AllByRecursion (IsOther c.0.step) cs × ShownApart cs

  not_there : (step : Segment) (cs : List (Place G X)) → AllByRecursion (IsOther step) cs → (s : Spot G) (a : Outcome X) → IsAmong s a cs
      → unplaced_segment step ≡ unplaced_segment s.step → ⊥
  not_there step [] apart s a h same = absurd h
  not_there step (c ∷ cs) apart s a (inl h) same = apart.0 (same ∙ ap (λ (p : Spot G). unplaced_segment p.step) h.0)
  not_there step (c ∷ cs) apart s a (inr h) same = not_there step cs apart.1 s a h same

  one_there : (cs : List (Place G X)) → ShownApart cs → (s t : Spot G) (a b : Outcome X) → IsAmong s a cs → IsAmong t b cs
      → unplaced_segment s.step ≡ unplaced_segment t.step → (s ≡ t) × (a ≡ b)
  one_there [] apart s t a b h k same = absurd h
  one_there (c ∷ cs) apart s t a b (inl h) (inl k) same = (h.0 ∙ sym k.0, h.1 ∙ sym k.1)
  one_there (c ∷ cs) apart s t a b (inl h) (inr k) same =
      absurd (not_there c.0.step cs apart.0 t b k (sym (ap (λ (p : Spot G). unplaced_segment p.step) h.0) ∙ same))
  one_there (c ∷ cs) apart s t a b (inr h) (inl k) same =
      absurd (not_there c.0.step cs apart.0 s a h (sym (ap (λ (p : Spot G). unplaced_segment p.step) k.0) ∙ sym same))
  one_there (c ∷ cs) apart s t a b (inr h) (inr k) same = one_there cs apart.1 s t a b h k same

  later_apart : (list : Spot G) (i n : ℕ) (ms : Meanings X) → i + 1 ≤ n → AllByRecursion (IsOther (ListIndex i)) (items_of list n ms)
  later_apart list i n no_answer h = tt
  later_apart list i n (answer_then m ms) h = (differ, later_apart list i (n + 1) ms (omega (arith, h))) where
    differ : ¬ (ListIndex i ≡ ListIndex n)
    differ e = let same : i ≡ n = ap index_of e in omega (arith, h, same)

  items_apart : (list : Spot G) (i : ℕ) (ms : Meanings X) → ShownApart (items_of list i ms)
  items_apart list i no_answer = tt
  items_apart list i (answer_then m ms) = (later_apart list i (i + 1) ms (omega arith), items_apart list (i + 1) ms)

module _ {G : Type 0} where
  shown_end : (s : Spot G) → shown (path_of (trail s)) ≡ shown (path_of s.around) ++ unplaced_segment s.step ∷ []
  shown_end s = map_joined unplaced_segment (path_of s.around) (s.step ∷ [])

  -- places that are shown at one path have one step, and one path around them
  ends : (s t : Spot G) → shown (path_of (trail s)) ≡ shown (path_of (trail t))
      → (shown (path_of s.around) ≡ shown (path_of t.around)) × (unplaced_segment s.step ≡ unplaced_segment t.step)
  ends s t same =
      end_split (shown (path_of s.around)) (shown (path_of t.around)) (unplaced_segment s.step) (unplaced_segment t.step) (sym (shown_end s) ∙ same ∙ shown_end t)

module _ {X T G S : Type 0} (w : World X T G S) (root : T) (initial : X) (all : S) (lawful : IsLawful w) where
  abbrev IsReached : Spot G → Outcome X → Type 0
  IsReached = Reaches w root initial all

  keys_apart : (U : T) (x : X) (outer : Trail) (g : G) (gs : List G) → AllByRecursion (λ h. ¬ (key_of w g ≡ key_of w h)) gs
      → AllByRecursion (IsOther {X = X} (Field (w.name_of g))) (fields_of w U x outer gs)
  keys_apart U x outer g [] distinct = tt
  keys_apart U x outer g (h ∷ gs) distinct = (differ, keys_apart U x outer g gs distinct.1) where
    differ : ¬ (unplaced_segment (Field (w.name_of g)) ≡ unplaced_segment (Field (w.name_of h)))
    differ e = distinct.0 (ap text_of e)

  fields_apart : (U : T) (x : X) (outer : Trail) (gs : List G) → DistinctKeys w gs → ShownApart (fields_of w U x outer gs)
  fields_apart U x outer [] distinct = tt
  fields_apart U x outer (g ∷ gs) distinct = (keys_apart U x outer g gs distinct.0, fields_apart U x outer gs distinct.1)

  if_apart : (type : Option T) (x : X) (spot : Spot G) → ShownApart (fields_if w type x spot)
  if_apart None x spot = tt
  if_apart (Some U) x spot = fields_apart U x (trail spot) _ (lawful.distinct_keys U (w.below spot.group))

  inside_apart : (outer : Spot G) (m : Meaning X) → ShownApart (inside w outer m)
  inside_apart outer (gives_leaf v) = tt
  inside_apart outer (gives_object x) = if_apart (w.type_of x) x outer
  inside_apart outer (gives_list ms) = items_apart outer 0 ms
  inside_apart outer gives_skip = tt
  inside_apart outer (fails_with text) = tt

  -- a place at the root has no path around it, and one inside another has
  not_both : (s t outer : Spot G) → s.around ≡ [] → t.around ≡ trail outer → shown (path_of s.around) ≡ shown (path_of t.around) → ⊥
  not_both s t outer none some same =
      no_end (shown (path_of outer.around)) (unplaced_segment outer.step)
      (ap (λ (a : Trail). shown (path_of a)) (sym none) ∙ same ∙ ap (λ (a : Trail). shown (path_of a)) some ∙ shown_end outer)

  pub one_place : {s t : Spot G} {a b : Outcome X} → IsReached s a → IsReached t b → shown (path_of (trail s)) ≡ shown (path_of (trail t)) → (s ≡ t) × (a ≡ b)
  one_place {s = s} {t = t} {a = a} {b = b} (at_root h) (at_root k) same =
      one_there (fields_of w root initial [] (w.groups root all)) (fields_apart root initial [] _ (lawful.distinct_keys root all)) s t a b h k (ends s t same).1
  one_place {s = s} {t = t} {a = a} {b = b} (at_root h) (at_inside outer m r fits k) same =
      absurd (not_both s t outer (fields_around w root initial all lawful root initial [] _ s a h) (inside_around w root initial all lawful outer m t b k) (ends s t same).0)
  one_place {s = s} {t = t} {a = a} {b = b} (at_inside outer m r fits h) (at_root k) same =
      absurd (not_both t s outer (fields_around w root initial all lawful root initial [] _ t b k) (inside_around w root initial all lawful outer m s a h) (sym (ends s t same).0))
  one_place {s = s} {t = t} {a = a} {b = b} (at_inside outer m r fits h) (at_inside outer2 m2 r2 fits2 k) same =
      let at : shown (path_of (trail outer)) ≡ shown (path_of (trail outer2)) =
      ap (λ (c : Trail). shown (path_of c)) (sym (inside_around w root initial all lawful outer m s a h)) ∙ (ends s t same).0
      ∙ ap (λ (c : Trail). shown (path_of c)) (inside_around w root initial all lawful outer2 m2 t b k) in
      let one = one_place r r2 at in
      let answers : m ≡ m2 = answered_same w root initial all lawful m m2 one.1 in
      let moved : IsAmong s a (inside w outer2 m2) = subst (λ (p : Spot G). IsAmong s a (inside w p m2)) one.0 (subst (λ (n : Meaning X). IsAmong s a (inside w outer n)) answers h) in
      one_there (inside w outer2 m2) (inside_apart outer2 m2) s t a b moved k (ends s t same).1
