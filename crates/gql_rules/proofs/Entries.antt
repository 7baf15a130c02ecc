-- Entries of joined lists.
use Rattle.std.proofs.Common.{◌≡◌, ℕ, Bool, true, false, cond, if◌then◌else◌, Option, Some, None, is_some, List, [], ◌∷◌, ◌++◌, map, refl, ap, ◌∙◌}
use Rattle.std.specs.List.{find}
use Rattle.std.specs.Option.{option_map}
use Rattle.std.specs.Str.{bytes_eq}
use Rattle.std.proofs.lemmas.Slice.Eq.{bytes_eq-Decides}
use Rattle.gql_rules.specs.bridge.Judged.{or_first}

-- the first of what is found through a view
pub find-map : {X Y : Type 0} (f : X → Y) (p : Y → Bool) (xs : List X) → option_map f (find (λ x. p (f x)) xs) ≡ find p (map f xs)
find-map f p [] = refl
find-map f p (x ∷ xs) = by_test (p (f x)) (find-map f p xs)
  where
    by_test : (b : Bool) → option_map f (find (λ x. p (f x)) xs) ≡ find p (map f xs) → option_map f (cond b (Some x) (find (λ x. p (f x)) xs)) ≡ cond b (Some (f x)) (find p (map f xs))
    by_test true later = refl
    by_test false later = later

module _ {X : Type 0} (own : X → List ℕ) where
  abbrev entry : List ℕ → List X → Option X
  entry name xs = find (λ x. bytes_eq name (own x)) xs

  abbrev put_new : List X → X → List X
  put_new xs x = if is_some (entry (own x) xs) then xs else xs ++ x ∷ []

  abbrev joined : List X → List X → List X
  joined seen [] = seen
  joined seen (x ∷ xs) = joined (put_new seen x) xs

  find-append : (p : X → Bool) (xs ys : List X) → find p (xs ++ ys) ≡ or_first (find p xs) (find p ys)
  find-append p [] ys = refl
  find-append p (x ∷ xs) ys = by_test (p x) (find-append p xs ys)
    where
      by_test : (b : Bool) → find p (xs ++ ys) ≡ or_first (find p xs) (find p ys) → cond b (Some x) (find p (xs ++ ys)) ≡ or_first (cond b (Some x) (find p xs)) (find p ys)
      by_test true later = refl
      by_test false later = later

  some_first : (o further : Option X) → is_some o ≡ true → o ≡ or_first o further
  some_first None further is = absurd cc
  some_first (Some x) further is = refl

  -- with a thing more, a name stands for what it did, or else for that
  pub entry-put_new : (name : List ℕ) (seen : List X) (x : X) → entry name (put_new seen x) ≡ or_first (entry name seen) (cond (bytes_eq name (own x)) (Some x) None)
  entry-put_new name seen x = by_seen (is_some (entry (own x) seen)) refl
    where
      same_name : (b : Bool) → bytes_eq name (own x) ≡ b → is_some (entry (own x) seen) ≡ true → entry name seen ≡ or_first (entry name seen) (cond b (Some x) None)
      same_name true same is = some_first (entry name seen) (Some x) (ap (λ n. is_some (entry n seen)) ((bytes_eq-Decides name (own x)).0 same) ∙ is)
      same_name false same is = or_none (entry name seen)
        where
          or_none : (o : Option X) → o ≡ or_first o None
          or_none None = refl
          or_none (Some y) = refl

      by_seen : (b : Bool) → is_some (entry (own x) seen) ≡ b → entry name (if b then seen else seen ++ x ∷ []) ≡ or_first (entry name seen) (cond (bytes_eq name (own x)) (Some x) None)
      by_seen true is = same_name (bytes_eq name (own x)) refl is
      by_seen false is = find-append (λ y. bytes_eq name (own y)) seen (x ∷ [])

  first_assoc : (a b c : Option X) → or_first (or_first a b) c ≡ or_first a (or_first b c)
  first_assoc None b c = refl
  first_assoc (Some x) b c = refl

  step : (b : Bool) (x : X) (further : Option X) → or_first (cond b (Some x) None) further ≡ cond b (Some x) further
  step true x further = refl
  step false x further = refl

  pub entry-joined : (name : List ℕ) (seen xs : List X) → entry name (joined seen xs) ≡ or_first (entry name seen) (entry name xs)
  entry-joined name seen [] = or_none (entry name seen)
    where
      or_none : (o : Option X) → o ≡ or_first o None
      or_none None = refl
      or_none (Some y) = refl
  entry-joined name seen (x ∷ xs) =
      entry-joined name (put_new seen x) xs
      ∙ ap (λ o. or_first o (entry name xs)) (entry-put_new name seen x)
      ∙ first_assoc (entry name seen) (cond (bytes_eq name (own x)) (Some x) None) (entry name xs)
      ∙ ap (or_first (entry name seen)) (step (bytes_eq name (own x)) x (entry name xs))
